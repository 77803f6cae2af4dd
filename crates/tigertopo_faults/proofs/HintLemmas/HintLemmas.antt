-- What is told behind a stop.
use Rattle.std.proofs.Common.{◌≡◌, ℕ, zero, suc, ◌+◌, ◌-◌, ◌<◌, ◌≤◌, nat_le, true, false, List, [], ◌∷◌, Option, None, Some, IfSome, Result, Ok, Err, OnOk, map, length, drop, get_or, refl, sym, ap, inl, inr, Contains, ◌∙◌, arith, drop-cons, add-one}
use Rattle.std.proofs.lemmas.List.{drop_all, length-map, get_or-map}
use Rattle.std.proofs.lemmas.Bool.{le-leb, lt-leb}
use Rattle.std.specs.Option.{option_map, option_map_or}
use Rattle.std.specs.Io.KnownBytes.{Appends}
use Rattle.tl_record.specs.declared.stop.Cause.{Cause}
use Rattle.tigertopo_faults.specs.Places.LinePlaces.{line_count, place_of, text_on}
use Rattle.tigertopo_files.specs.Files.{Under, bytes_under, trouble_of}
use Rattle.tl_cert_output.specs.declared.stop.Stop.{Stop}
use Rattle.tl_cert_output.specs.declared.stop.Stop.TheVariants.{Record, Memory, Device, Budget}
use Rattle.tl_cert_output.specs.Writing.{TriesToPassOn, CountsFailure}
use Rattle.tl_cert_output.proofs.WritingLemmas.{writes_some}
use Rattle.tigertopo_faults.specs.Hint.Advice.{Asker}
use Rattle.tigertopo_faults.specs.Hint.Hints.{refusal_at, hint_at, hint_in}
use Rattle.tigertopo_faults.specs.Hint.Telling.{HaveTexts, TellsWords, TellsTrouble, TellsHint}
use Rattle.tl_cert_output.specs.Streams.{Tries, stream}

-- what holds of a text that was made holds where it is written
words_told : (P Q : List ℕ → Type 0) → ((t : List ℕ) → P t → Q t) → (name : List ℕ) (words : Option (List ℕ)) (A B : Type 0) → (A → B) → TellsWords name words P A → TellsWords name words Q B
words_told P Q f name None A B g told = g told
words_told P Q f name (Some words) A B g told = f _ told

some_told : (P Q : List ℕ → Type 0) → ((t : List ℕ) → P t → Q t) → (name : List ℕ) (file : Option (Option (List ℕ))) (A B : Type 0) → (A → B)
    → IfSome file (λ f. TellsWords name (trouble_of f) P A) → IfSome file (λ f. TellsWords name (trouble_of f) Q B)
some_told P Q f name None A B g told = tt
some_told P Q f name (Some file) A B g told = words_told P Q f name (trouble_of file) A B g told

trouble_told : (P Q : List ℕ → Type 0) → ((t : List ℕ) → P t → Q t) → (under : Under) (names : List (List ℕ)) → TellsTrouble under names P → TellsTrouble under names Q
trouble_told P Q f under [] told = f [] told
trouble_told P Q f under (name ∷ rest) told = some_told P Q f name (under name) (TellsTrouble under rest P) (TellsTrouble under rest Q) (trouble_told P Q f under rest) told

pub hint_told : (P Q : List ℕ → Type 0) → ((t : List ℕ) → P t → Q t) → (stop : Stop) (by : Asker) (under : Under) (names : List (List ℕ)) → TellsHint stop by under names P → TellsHint stop by under names Q
hint_told P Q f (Record line cause) by under names told = λ texts have. f _ (told texts have)
hint_told P Q f Memory by under names told = f [] told
hint_told P Q f Device by under names told = trouble_told P Q f under names told
hint_told P Q f Budget by under names told = f [] told

-- what a write of a text tells of it
pub tries : {S T E : Type 0} (contents : S → Option (List ℕ)) (failures : S → ℕ) (old new : S) (text : List ℕ) (r : Result T E) → OnOk r (Appends (contents old) (contents new) text)
    → TriesToPassOn (contents old) (contents new) [] [] text r → CountsFailure (failures old) (failures new) r → Tries (stream contents failures old new) text
tries contents failures old new text (Ok done) bytes passes counts = inl (record { grown = bytes; no_failure = counts })
tries contents failures old new text (Err error) bytes passes counts = inr (writes_some contents failures old new text passes counts)

-- ---- names, and the texts that stand under them

module _ {A : Type 0} (h : A → List ℕ) (under : Under) where
  -- as many texts as names
  pub same_count : (names : List A) (texts : List (List ℕ)) → HaveTexts under (map h names) texts → length names ≡ length texts
  same_count [] [] have = refl
  same_count [] (text ∷ texts) have = absurd (let wrong = have in cc)
  same_count (name ∷ names) [] have = absurd (let wrong = have in cc)
  same_count (name ∷ names) (text ∷ texts) have =
      let rest : HaveTexts under (map h names) texts = let all = have in cc in ap suc (same_count names texts rest)

  -- the text under a name
  pub text_at : (names : List A) (texts : List (List ℕ)) (i : ℕ) (name : A) → i < length names → name ≡ get_or names i name → HaveTexts under (map h names) texts
      → bytes_under under (h name) ≡ Some (get_or texts i [])
  text_at [] texts i name within is have = absurd (omega arith)
  text_at (first ∷ names) [] i name within is have = absurd (let wrong = have in cc)
  text_at (first ∷ names) (text ∷ texts) zero name within is have =
      let head : bytes_under under (h first) ≡ Some text = let all = have in cc in ap (λ n. bytes_under under (h n)) is ∙ head
  text_at (first ∷ names) (text ∷ texts) (suc i) name within is have =
      let rest : HaveTexts under (map h names) texts = let all = have in cc in text_at names texts i name (omega arith) is rest

  -- of a name that isn't known, none is
  pub not_known : (names : List A) (i : ℕ) (name : A) (told : List ℕ) → i < length names → name ≡ get_or names i name → told ≡ h name → under told ≡ None
      → (texts : List (List ℕ)) → HaveTexts under (map h names) texts → ⊥
  not_known names i name told within is said none texts have =
      let text = text_at names texts i name within is have in
      let unknown : under (h name) ≡ None = ap under (sym said) ∙ none in
      let wrong = rw unknown at text in absurd (let no = wrong in cc)

pub named : {A : Type 0} (h : A → List ℕ) (names : List A) (i : ℕ) (name : A) → i < length names → name ≡ get_or names i name → get_or (map h names) i [] ≡ h name
named h [] i name within is = absurd (omega arith)
named h (first ∷ names) zero name within is = ap h (sym is)
named h (first ∷ names) (suc i) name within is = named h names i name (omega arith) is

-- ---- one of the names

pub among : {A : Type 0} (h : A → List ℕ) (names : List A) (i : ℕ) (name : A) → i < length names → name ≡ get_or names i name → Contains (map h names) (h name)
among h names i name within is = let long = length-map names h in (i, omega (arith, within, long), get_or-map h names i name (h name) within ∙ ap h (sym is))

-- one name has no other
only_at : {A : Type 0} (name other : A) (k : ℕ) → k < length (name ∷ []) → get_or (name ∷ []) k other ≡ other → name ≡ other
only_at name other zero within is = is
only_at name other (suc k) within is = absurd (omega arith)

pub only : {A : Type 0} (name other : A) → Contains (name ∷ []) other → name ≡ other
only name other there = only_at name other there.0 there.1 there.2

-- ---- a refused line in one file after the other

-- an item has one value, whatever stands for one that there isn't
pub same_got : {A : Type 0} (xs : List A) (i : ℕ) (d e : A) → i < length xs → get_or xs i d ≡ get_or xs i e
same_got [] i d e within = absurd (omega arith)
same_got (x ∷ xs) zero d e within = refl
same_got (x ∷ xs) (suc i) d e within = same_got xs i d e (omega arith)

-- the one that comes next, and those behind it
pub one_left : {A : Type 0} (xs : List A) (i : ℕ) (x : A) → i < length xs → x ≡ get_or xs i x → drop i xs ≡ x ∷ drop (i + 1) xs
one_left xs i x within is =
    let first : drop i xs ≡ get_or xs i x ∷ drop (i + 1) xs = rw (add-one, drop-cons xs i x) refl in
    first ∙ ap (λ y. y ∷ drop (i + 1) xs) (sym is)

module _ (by : Asker) (name : List ℕ) (names : List (List ℕ)) (text : List ℕ) (texts : List (List ℕ)) where
  first_told : (number : ℕ) (cause : Cause) → number ≤ line_count text → refusal_at by (name ∷ names) (text ∷ texts) (number, cause) ≡ hint_in by name text cause number
  first_told number cause here = let yes : nat_le number (line_count text) ≡ true = le-leb number (line_count text) here in rw yes refl

  one_on : (cause : Cause) (place : Option (ℕ × ℕ)) → option_map_or (hint_at by (name ∷ names) (text ∷ texts) cause) (option_map text_on place) [] ≡ option_map_or (hint_at by names texts cause) place []
  one_on cause None = refl
  one_on cause (Some place) = let next : place.0 + 1 ≡ suc place.0 = omega arith in rw next refl

  later_told : (number : ℕ) (cause : Cause) → line_count text < number → refusal_at by (name ∷ names) (text ∷ texts) (number, cause) ≡ refusal_at by names texts (number - line_count text, cause)
  later_told number cause past =
      let no : nat_le number (line_count text) ≡ false = lt-leb number (line_count text) past in
      rw no (one_on cause (place_of (map line_count texts) (number - line_count text)))

module _ {A : Type 0} (h : A → List ℕ) (by : Asker) (under : Under) (names : List A) (texts : List (List ℕ)) (have : HaveTexts under (map h names) texts) (whole : List ℕ) (cause : Cause) where
  one_file : (i : ℕ) (name : A) (number : ℕ) → i < length names → name ≡ get_or names i name
      → refusal_at by (map h (drop i names)) (drop i texts) (number, cause) ≡ whole
      → refusal_at by (h name ∷ map h (drop (i + 1) names)) (get_or texts i [] ∷ drop (i + 1) texts) (number, cause) ≡ whole
  one_file i name number within is left =
      let size = same_count h under names texts have in
      let there : i < length texts = omega (arith, size, within) in
      let first : drop i texts ≡ get_or texts i [] ∷ drop (i + 1) texts = one_left texts i (get_or texts i []) there (sym (same_got texts i (get_or texts i []) [] there)) in
      let called : map h (drop i names) ≡ h name ∷ map h (drop (i + 1) names) = ap (map h) (one_left names i name within is) in
      ap (λ (ns : List (List ℕ)). refusal_at by ns (get_or texts i [] ∷ drop (i + 1) texts) (number, cause)) (sym called)
      ∙ ap (λ (ts : List (List ℕ)). refusal_at by (map h (drop i names)) ts (number, cause)) (sym first) ∙ left

  -- it stands in this file
  pub told_here : (i : ℕ) (name : A) (known : Option (List ℕ)) (number : ℕ) (made : List ℕ) → i < length names → name ≡ get_or names i name → known ≡ bytes_under under (h name)
      → IfSome known (λ held. (number ≤ line_count held) × (made ≡ hint_in by (h name) held cause number))
      → refusal_at by (map h (drop i names)) (drop i texts) (number, cause) ≡ whole → made ≡ whole
  told_here i name known number made within is reads told left =
      let held = get_or texts i [] in
      let there : known ≡ Some held = reads ∙ text_at h under names texts i name within is have in
      let here = rw there at told in
      here.1 ∙ sym (first_told by (h name) (map h (drop (i + 1) names)) held (drop (i + 1) texts) number cause here.0) ∙ one_file i name number within is left

  -- it stands in a file behind it
  pub told_behind : (i : ℕ) (name : A) (known : Option (List ℕ)) (number lines : ℕ) → i < length names → name ≡ get_or names i name → known ≡ bytes_under under (h name)
      → lines < number → IfSome known (λ held. lines ≡ line_count held)
      → refusal_at by (map h (drop i names)) (drop i texts) (number, cause) ≡ whole → refusal_at by (map h (drop (i + 1) names)) (drop (i + 1) texts) (number - lines, cause) ≡ whole
  told_behind i name known number lines within is reads less told left =
      let held = get_or texts i [] in
      let there : known ≡ Some held = reads ∙ text_at h under names texts i name within is have in
      let counted : lines ≡ line_count held = rw there at told in
      ap (λ (n : ℕ). refusal_at by (map h (drop (i + 1) names)) (drop (i + 1) texts) (number - n, cause)) counted
      ∙ sym (later_told by (h name) (map h (drop (i + 1) names)) held (drop (i + 1) texts) number cause (omega (arith, less, counted))) ∙ one_file i name number within is left

  -- it stands in none
  pub told_nowhere : (i number : ℕ) → length names ≤ i → refusal_at by (map h (drop i names)) (drop i texts) (number, cause) ≡ whole → [] ≡ whole
  told_nowhere i number past left =
      let size = same_count h under names texts have in
      let none : drop i texts ≡ [] = drop_all i texts (omega (arith, size, past)) in
      ap (λ (ts : List (List ℕ)). refusal_at by (map h (drop i names)) ts (number, cause)) (sym none) ∙ left
