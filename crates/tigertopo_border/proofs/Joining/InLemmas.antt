-- What a list holds, by recursion.
use Rattle.std.proofs.Common.{◌≡◌, ℕ, zero, suc, ◌<◌, ◌≤◌, ◌⊎◌, Bool, true, List, [], ◌∷◌, ◌++◌, length, filter, map, get_or, Some, None, Contains, cond, count_by, refl, sym, ap, ◌∙◌, inl, inr, arith}
use Rattle.std.specs.Prelude.{slice_get}
use Rattle.std.proofs.lemmas.Bool.{cases_Bool}
use Rattle.std.proofs.lemmas.List.Sums.{sum_by-cons}

-- the list holds it
abbrev pub In : {X : Type 0} → X → List X → Type 0
In x [] = ⊥
In x (y ∷ ys) = (y ≡ x) ⊎ In x ys

pub from_contained : {X : Type 0} (xs : List X) (x : X) → Contains xs x → In x xs
from_contained xs x has = go xs has.0 has.1 has.2
  where
    go : (ys : List _) (k : ℕ) → k < length ys → get_or ys k x ≡ x → In x ys
    go [] k lt at = absurd (omega (arith, lt))
    go (y ∷ ys) zero lt at = inl at
    go (y ∷ ys) (suc k) lt at = inr (go ys k (omega (arith, lt)) at)

pub contained : {X : Type 0} (xs : List X) (x : X) → In x xs → Contains xs x
contained [] x has = absurd has
contained (y ∷ ys) x (inl same) = (0, omega arith, same)
contained (y ∷ ys) x (inr more) = let has = contained ys x more in let lt = has.1 in (suc has.0, omega (arith, lt), has.2)

pub from_place : {X : Type 0} (xs : List X) (k : ℕ) (x : X) → slice_get xs k ≡ Some x → In x xs
from_place [] k x is = absurd (let wrong : None ≡ Some x = is in cc)
from_place (y ∷ ys) zero x is = inl (let e : Some y ≡ Some x = is in cc)
from_place (y ∷ ys) (suc k) x is = inr (from_place ys k x is)

pub placed : {X : Type 0} (xs : List X) (x : X) → In x xs → (k : ℕ) × (slice_get xs k ≡ Some x)
placed [] x has = absurd has
placed (y ∷ ys) x (inl same) = (0, ap (λ z. Some z) same)
placed (y ∷ ys) x (inr more) = let p = placed ys x more in (suc p.0, p.1)

pub in_both : {X : Type 0} (xs ys : List X) (x : X) → In x (xs ++ ys) → In x xs ⊎ In x ys
in_both [] ys x has = inr has
in_both (z ∷ xs) ys x (inl same) = inl (inl same)
in_both (z ∷ xs) ys x (inr more) = elim (in_both xs ys x more) [
  | inl here ↦ inl (inr here)
  | inr there ↦ inr there
]

pub in_first : {X : Type 0} (xs ys : List X) (x : X) → In x xs → In x (xs ++ ys)
in_first [] ys x has = absurd has
in_first (z ∷ xs) ys x (inl same) = inl same
in_first (z ∷ xs) ys x (inr more) = inr (in_first xs ys x more)

pub in_second : {X : Type 0} (xs ys : List X) (x : X) → In x ys → In x (xs ++ ys)
in_second [] ys x has = has
in_second (z ∷ xs) ys x has = inr (in_second xs ys x has)

pub in_mapped : {X Y : Type 0} (f : X → Y) (xs : List X) (x : X) → In x xs → In (f x) (map f xs)
in_mapped f [] x has = absurd has
in_mapped f (y ∷ xs) x (inl same) = inl (ap f same)
in_mapped f (y ∷ xs) x (inr more) = inr (in_mapped f xs x more)

pub from_mapped : {X Y : Type 0} (f : X → Y) (xs : List X) (y : Y) → In y (map f xs) → (x : X) × In x xs × (f x ≡ y)
from_mapped f [] y has = absurd has
from_mapped f (x ∷ xs) y (inl same) = (x, inl refl, same)
from_mapped f (x ∷ xs) y (inr more) = let has = from_mapped f xs y more in (has.0, inr has.1, has.2)

-- ---- filters

pub in_passing : {X : Type 0} (p : X → Bool) (xs : List X) (x : X) → p x ≡ true → In x xs → In x (filter p xs)
in_passing p [] x holds has = absurd has
in_passing p (y ∷ xs) x holds (inl same) = let at : p y ≡ true = rw same holds in rw at (inl same)
in_passing p (y ∷ xs) x holds (inr more) = elim (cases_Bool (p y)) [
  | inl at ↦ rw at (inr (in_passing p xs x holds more))
  | inr other ↦ rw other (in_passing p xs x holds more)
]

pub from_passing : {X : Type 0} (p : X → Bool) (xs : List X) (x : X) → In x (filter p xs) → In x xs × (p x ≡ true)
from_passing p [] x has = absurd has
from_passing p (y ∷ xs) x has = elim (cases_Bool (p y)) [
  | inl at ↦
      let there : (y ≡ x) ⊎ In x (filter p xs) = rw at at has in
      elim there [
        | inl same ↦ (inl same, rw (← same) at)
        | inr more ↦ let rest = from_passing p xs x more in (inr rest.0, rest.1)
      ]
  | inr other ↦ let there : In x (filter p xs) = rw other at has in let rest = from_passing p xs x there in (inr rest.0, rest.1)
]

-- one that passes is counted
pub in_counted : {X : Type 0} (p : X → Bool) (xs : List X) (x : X) → p x ≡ true → In x xs → 1 ≤ count_by p xs
in_counted p [] x holds has = absurd has
in_counted p (y ∷ xs) x holds (inl same) =
    let at : cond {A = ℕ} (p y) 1 0 ≡ 1 = rw (same, holds) refl in
    omega (arith, at, sum_by-cons (λ z. cond {A = ℕ} (p z) 1 0) y xs)
in_counted p (y ∷ xs) x holds (inr more) = omega (arith, in_counted p xs x holds more, sum_by-cons (λ z. cond {A = ℕ} (p z) 1 0) y xs)

-- ---- short lists

pub single : {X : Type 0} (xs : List X) (x : X) → length xs ≤ 1 → In x xs → xs ≡ x ∷ []
single [] x few has = absurd has
single (y ∷ []) x few (inl same) = ap (λ z. z ∷ []) same
single (y ∷ []) x few (inr more) = absurd more
single (y ∷ z ∷ xs) x few has = absurd (omega (arith, few))

pub one_of_one : {X : Type 0} (xs : List X) (x y : X) → xs ≡ x ∷ [] → In y xs → x ≡ y
one_of_one [] x y is has = absurd has
one_of_one (z ∷ zs) x y is (inl same) = let first : z ≡ x = cc in sym first ∙ same
one_of_one (z ∷ zs) x y is (inr more) = let none : zs ≡ [] = cc in absurd (rw none at more)

pub one_in : {X : Type 0} (xs : List X) (x : X) → xs ≡ x ∷ [] → In x xs
one_in xs x is = rw is (inl refl)
