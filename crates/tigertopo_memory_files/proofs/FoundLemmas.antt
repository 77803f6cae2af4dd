-- Files that are found by their names.
use Rattle.std.proofs.Common.{◌≡◌, ◌≢◌, ℕ, ◌+◌, ◌<◌, ◌≤◌, true, false, inl, inr, Option, Some, None, List, [], ◌∷◌, ◌++◌, length, map, drop, get_or, Contains, refl, sym, ap, ◌∙◌, arith}
use Rattle.std.specs.Prelude.{nat_eq, string_bytes, slice_get}
use Rattle.std.specs.Option.{option_map}
use Rattle.std.specs.Cmp.Lexicographic.{pointwise, same_text}
use Rattle.std.proofs.lemmas.Bool.{cases_Bool, cases_lt}
use Rattle.std.proofs.lemmas.Option.{same_Some, slice_get-map, slice_get-get_or}
use Rattle.std.proofs.lemmas.Cmp.{nat_list_eq_equiv}
use Rattle.std.proofs.lemmas.List.{at_drop_more, get_or-map, length-map}
use Rattle.tigertopo_memory_files.specs.declared.in_memory.Stored.{Stored}
use Rattle.tigertopo_memory_files.specs.Keeping.Stored.{same_name, found_with, found_from, file_in}

-- one file more
found_push : (name : List ℕ) (found : Option (List ℕ)) (files : List Stored) (file : Stored) → found_from name found (files ++ file ∷ []) ≡ found_with name (found_from name found files) file
found_push name found [] file = refl
found_push name found (other ∷ files) file = found_push name (found_with name found other) files file

same_name-refl : (name : List ℕ) → same_name name name ≡ true
same_name-refl name = nat_list_eq_equiv.refl name

-- a file that is stored is found
pub stored : (files : List Stored) (file : Stored) → file_in (files ++ file ∷ []) (string_bytes file.name) ≡ Some file.bytes.items
stored files file = found_push (string_bytes file.name) None files file ∙ rw (same_name-refl (string_bytes file.name)) refl

-- others are found as before
pub stored_other : (files : List Stored) (file : Stored) (other : List ℕ) → other ≢ string_bytes file.name → file_in (files ++ file ∷ []) other ≡ file_in files other
stored_other files file other differs = found_push other None files file ∙ elim (cases_Bool (same_name (string_bytes file.name) other)) [
  | inl same ↦ absurd (differs (sym (same_text (string_bytes file.name) other (sym same))))
  | inr not ↦ rw not refl
]

-- a step of a look-up
pub found_step : (name : List ℕ) (found : Option (List ℕ)) (files : List Stored) (i : ℕ) (d : Stored) → i < length files
    → found_from name found (drop i files) ≡ found_from name (found_with name found (get_or files i d)) (drop (i + 1) files)
found_step name found files i d lt = at_drop_more (λ rest. found_from name found rest) files i d lt

-- a name that is met among others
pub among_here : {X : Type 0} (f : X → List ℕ) (xs : List X) (i : ℕ) (x : X) (name : List ℕ) → i < length xs → x ≡ get_or xs i x → pointwise nat_eq (f x) name ≡ true → Contains (map f xs) name
among_here f xs i x name lt at same =
    let is : f x ≡ name = same_text (f x) name (sym same) in
    let long = length-map xs f in
    (i, omega (arith, lt, long), get_or-map f xs i x name lt ∙ ap f (sym at) ∙ is)

-- one more that isn't the name
pub none_more : {X : Type 0} (f : X → List ℕ) (xs : List X) (i : ℕ) (x : X) (name : List ℕ) → i < length xs → x ≡ get_or xs i x → pointwise nat_eq (f x) name ≡ false
    → ((k : ℕ) (n : List ℕ) → k < i → slice_get (map f xs) k ≡ Some n → n ≢ name) → (k : ℕ) (n : List ℕ) → k < i + 1 → slice_get (map f xs) k ≡ Some n → n ≢ name
none_more f xs i x name lt at other before k n low is = elim (cases_lt k i) [
  | inl earlier ↦ before k n earlier is
  | inr last ↦ λ same.
      let here : k ≡ i = omega arith in
      let got : slice_get (map f xs) i ≡ Some (f x) = slice_get-map f xs i ∙ ap (option_map f) (slice_get-get_or xs i x lt) ∙ ap (λ y. Some (f y)) (sym at) in
      let one : f x ≡ n = same_Some (f x) n (sym got ∙ rw here at is) in
      let e : true ≡ false = sym (same_name-refl name) ∙ (rw (one ∙ same) at other) in
      absurd (cc)
]

-- the name is none of them
pub none_among : {X : Type 0} (f : X → List ℕ) (xs : List X) (i : ℕ) (name : List ℕ) → length xs ≤ i → ((k : ℕ) (n : List ℕ) → k < i → slice_get (map f xs) k ≡ Some n → n ≢ name) → ¬ Contains (map f xs) name
none_among f xs i name all none has =
    let long = length-map xs f in
    none has.0 name (omega (arith, has.1, long)) (slice_get-get_or (map f xs) has.0 name has.1 ∙ ap Some has.2) refl
