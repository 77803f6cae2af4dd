-- What the front of a file tells of it.
use Rattle.std.proofs.Common.{◌≡◌, ◌≢◌, ℕ, ◌<◌, ◌==◌, ◌||◌, Bool, true, false, zero, suc, inl, inr, List, [], ◌∷◌, Option, Some, None, IfSome, length, min, take, refl, sym, ap, ◌∙◌, arith}
use Rattle.std.specs.Prelude.{nat_eq}
use Rattle.std.specs.List.{starts_with}
use Rattle.std.specs.Cmp.Lexicographic.{pointwise, same_text}
use Rattle.std.proofs.lemmas.Bool.{cases_Bool, cases_lt}
use Rattle.std.proofs.lemmas.Bool.Decides.{nat_tests}
use Rattle.std.proofs.lemmas.Cmp.{nat_list_eq_equiv}
use Rattle.std.proofs.lemmas.List.{length-take, take-take, take_all}
use Rattle.tigertopo_files.specs.Files.{beginning_of, may_go, may_be_left}
use Rattle.tigertopo_files.specs.declared.beginning.FileKind.{FileKind}
use Rattle.tigertopo_files.specs.declared.beginning.FileKind.TheVariants.{Certificate, Collection, Picture, Records}

-- the front of a file's first bytes
pub front_of_first : (size count : ℕ) (xs : List ℕ) → take (min size count) xs ≡ take count (take size xs)
front_of_first size count xs = elim (cases_lt size count) [
  | inl less ↦
      let long = length-take size xs in
      rw (let e : min size count ≡ size = omega arith in e) (sym (take_all count (take size xs) (omega arith)))
  | inr most ↦ rw (let e : min size count ≡ count = omega arith in e) (sym (take-take count size xs (omega arith)))
]

some_begin : (kind : FileKind) → 0 < length (beginning_of kind)
some_begin Certificate = omega arith
some_begin Collection = omega arith
some_begin Picture = omega arith
some_begin Records = omega arith

not_zero : (n : ℕ) → 0 < n → (n == 0) ≡ false
not_zero n some = grind (arith, nat_tests)

is_empty_front : (count : ℕ) (xs : List ℕ) → 0 < count → (length (take count xs) == 0) ≡ (length xs == 0)
is_empty_front zero xs some = absurd (omega arith)
is_empty_front (suc count) [] some = refl
is_empty_front (suc count) (x ∷ xs) some =
    let long = length-take (suc count) (x ∷ xs) in
    let all : length (x ∷ xs) ≡ suc (length xs) = refl in
    not_zero (length (take (suc count) (x ∷ xs))) (omega arith) ∙ sym (not_zero (length (x ∷ xs)) (omega arith))

begins_front : (xs start : List ℕ) → starts_with nat_eq (take (length start) xs) start ≡ starts_with nat_eq xs start
begins_front xs start = ap (λ ys. pointwise nat_eq start ys) (take-take (length start) (length start) xs (omega arith))

-- a file may be written over where its front says so
pub may_go_front : (kind : FileKind) (xs : List ℕ) → may_go kind (take (length (beginning_of kind)) xs) ≡ may_go kind xs
may_go_front kind xs = rw (is_empty_front (length (beginning_of kind)) xs (some_begin kind), begins_front xs (beginning_of kind)) refl

differs : (xs ys : List ℕ) → (xs ≢ ys) → pointwise nat_eq xs ys ≡ false
differs xs ys not = elim (cases_Bool (pointwise nat_eq xs ys)) [
  | inl same ↦ absurd (not (same_text xs ys (sym same)))
  | inr other ↦ other
]

left_front : (start xs : List ℕ) → length start < length xs
    → (starts_with nat_eq xs start || starts_with nat_eq start (take (length start) xs)) ≡ (starts_with nat_eq xs start || starts_with nat_eq start xs)
left_front start xs more = elim (cases_Bool (starts_with nat_eq xs start)) [
  | inl begins ↦ rw begins refl
  | inr not ↦
      let long = length-take (length start) xs in
      let count : length (take (length start) xs) ≡ length start = omega arith in
      let one : starts_with nat_eq start (take (length start) xs) ≡ false =
      rw (count, take_all (length start) start (omega arith)) (differs (take (length start) xs) start (λ same.
      let e : true ≡ false = sym (nat_list_eq_equiv.refl start) ∙ (rw same at not) in cc)) in
      let other : starts_with nat_eq start xs ≡ false =
      rw (take_all (length xs) start (omega arith)) (differs xs start (λ same. let e : length xs ≡ length start = ap length same in omega arith)) in
      rw (not, one, other) refl
]

-- a file may be one that was left unfinished where its front says so
pub may_be_left_front : (kind : FileKind) (xs : List ℕ) → may_be_left kind (take (length (beginning_of kind)) xs) ≡ may_be_left kind xs
may_be_left_front kind xs = elim (cases_lt (length (beginning_of kind)) (length xs)) [
  | inl more ↦ rw (begins_front xs (beginning_of kind)) (left_front (beginning_of kind) xs more)
  | inr all ↦ ap (may_be_left kind) (take_all (length (beginning_of kind)) xs (omega arith))
]

pub may_go_by_front : (known : Option (List ℕ)) (size : ℕ) (kind : FileKind) (front : List ℕ) (answer : Bool)
    → IfSome known (λ bytes. front ≡ take (min size (length (beginning_of kind))) bytes) → answer ≡ may_go kind front → IfSome known (λ bytes. answer ≡ may_go kind (take size bytes))
may_go_by_front None size kind front answer is answers = tt
may_go_by_front (Some bytes) size kind front answer is answers =
    answers ∙ ap (may_go kind) (is ∙ front_of_first size (length (beginning_of kind)) bytes) ∙ may_go_front kind (take size bytes)

pub may_be_left_by_front : (known : Option (List ℕ)) (size : ℕ) (kind : FileKind) (front : List ℕ) (answer : Bool)
    → IfSome known (λ bytes. front ≡ take (min size (length (beginning_of kind))) bytes) → answer ≡ may_be_left kind front → IfSome known (λ bytes. answer ≡ may_be_left kind (take size bytes))
may_be_left_by_front None size kind front answer is answers = tt
may_be_left_by_front (Some bytes) size kind front answer is answers =
    answers ∙ ap (may_be_left kind) (is ∙ front_of_first size (length (beginning_of kind)) bytes) ∙ may_be_left_front kind (take size bytes)
