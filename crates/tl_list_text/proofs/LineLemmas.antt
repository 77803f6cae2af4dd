-- Texts that are put together of several parts, one behind the other.
use Rattle.std.proofs.Common.{◌≡◌, ◌≢◌, ℕ, List, [], ◌∷◌, ◌++◌, append_assoc, codes, decimal, sym}
use Rattle.std.specs.Prelude.{slice_index}
use Rattle.std.specs.Char.{encode_utf8}
use Rattle.std.proofs.lemmas.Bool.{ne_eqb}
use Rattle.tl_list_text.specs.Texts.{touched_text}

-- the five characters of a CENID
abbrev pub letters : List ℕ → List ℕ
letters shown =
    encode_utf8 (slice_index shown 0) ++ encode_utf8 (slice_index shown 1) ++ encode_utf8 (slice_index shown 2) ++ encode_utf8 (slice_index shown 3) ++ encode_utf8 (slice_index shown 4)

-- a CENID by its parts, and a key by its
pub cenid_parts : (c d e f g : List ℕ) → c ++ d ++ e ++ f ++ g ≡ c ++ (d ++ (e ++ (f ++ g)))
cenid_parts c d e f g = simp append_assoc

pub key_parts : (c d e f g slash number : List ℕ) → (c ++ (d ++ (e ++ (f ++ g)))) ++ slash ++ number ≡ c ++ (d ++ (e ++ (f ++ (g ++ (slash ++ number)))))
key_parts c d e f g slash number = simp append_assoc

-- the numbers of a map, each behind its word
pub report_parts : (head a w b x c y d z e v f end : List ℕ)
    → head ++ a ++ w ++ b ++ x ++ c ++ y ++ d ++ z ++ e ++ v ++ f ++ end
    ≡ (head ++ (a ++ (w ++ (b ++ (x ++ (c ++ (y ++ (d ++ (z ++ (e ++ (v ++ f))))))))))) ++ end
report_parts head a w b x c y d z e v f end = simp append_assoc

-- the line of touched polygons
pub touched_line : (n : ℕ) → n ≢ 0 → (codes "touched polygons=" ++ decimal n) ++ codes " not looked at\n" ≡ touched_text n
touched_line n some = rw (ne_eqb n 0 some) (sym (append_assoc (codes "touched polygons=" ++ decimal n) (codes " not looked at") (10 ∷ [])))
