-- Texts that are printed piece by piece: what is left of each, as its next piece and what is left behind that.
use Rattle.std.proofs.Common.{◌≡◌, ℕ, zero, suc, ◌+◌, ◌<◌, ◌≤◌, List, [], ◌∷◌, ◌++◌, drop, length, get_or, map, Some, slice_get, refl, sym, ap, ◌∙◌, arith}
use Rattle.std.specs.Prelude.{codes, option_map, slice_index}
use Rattle.std.proofs.lemmas.List.{drop_more, drop_all}
use Rattle.std.proofs.lemmas.Option.{slice_get-map, slice_get-get_or}
use Rattle.tigertopo_words.specs.Names.{told_behind}
use Rattle.tigertopo_words.specs.Shell.{shell_word}
use Rattle.tigertopo_faults.specs.Hint.Shown.{shown_byte, shown_bytes}
use Rattle.tigertopo_faults.specs.Hint.Advice.{words_instead, word_instead}

-- ---- bytes that are told by what stands on both of their sides

pub told_next : (tell : (before byte after : ℕ) → List ℕ) (bytes : List ℕ) (i before : ℕ) → i < length bytes
    → told_behind tell before (drop i bytes) ≡ tell before (slice_index bytes i) (slice_index bytes (i + 1)) ++ told_behind tell (slice_index bytes i) (drop (i + 1) bytes)
told_next tell [] i before within = absurd (omega arith)
told_next tell (byte ∷ bytes) zero before within = refl
told_next tell (byte ∷ bytes) (suc i) before within = let next : suc i + 1 ≡ suc (i + 1) = omega arith in rw next (told_next tell bytes i before (omega (arith, within)))

pub told_end : (tell : (before byte after : ℕ) → List ℕ) (bytes : List ℕ) (i before : ℕ) → length bytes ≤ i → told_behind tell before (drop i bytes) ≡ []
told_end tell bytes i before past = ap (told_behind tell before) (drop_all i bytes past)

-- ---- bytes that are shown one after the other

pub shown_next : (bytes : List ℕ) (i d : ℕ) → i < length bytes → shown_bytes (drop i bytes) ≡ shown_byte (get_or bytes i d) ++ shown_bytes (drop (i + 1) bytes)
shown_next bytes i d within = ap shown_bytes (drop_more bytes i d within)

pub shown_end : (bytes : List ℕ) (i : ℕ) → length bytes ≤ i → shown_bytes (drop i bytes) ≡ []
shown_end bytes i past = ap shown_bytes (drop_all i bytes past)

-- ---- words that are typed in place of others

pub word_next : {A : Type 0} (h : A → List ℕ) (name : List ℕ) (words : List A) (i : ℕ) (word : A) → i < length words → word ≡ get_or words i word
    → words_instead name (map h (drop i words)) ≡ codes " " ++ shell_word (word_instead name (h word)) ++ words_instead name (map h (drop (i + 1) words))
word_next {A = A} h name words i word within is = rw is (ap (λ (ws : List A). words_instead name (map h ws)) (drop_more words i word within))

pub words_end : {A : Type 0} (h : A → List ℕ) (name : List ℕ) (words : List A) (i : ℕ) → length words ≤ i → words_instead name (map h (drop i words)) ≡ []
words_end {A = A} h name words i past = ap (λ (ws : List A). words_instead name (map h ws)) (drop_all i words past)

-- ---- names of files

-- what is made of an item of a list
pub mapped_at : {X Y : Type 0} (made : X → Y) (xs : List X) (i : ℕ) (x : X) → i < length xs → x ≡ get_or xs i x → slice_get (map made xs) i ≡ Some (made x)
mapped_at made xs i x within is =
    slice_get-map made xs i ∙ ap (option_map made) (slice_get-get_or xs i x within) ∙ ap (λ y. Some (made y)) (sym is)
