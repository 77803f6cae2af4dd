-- What holds of any two places of a list holds of any two of the same list in another order.
use Rattle.std.proofs.Common.{◌≢◌, ℕ, ◌<◌, inl, inr, List, length, get_or, refl, sym, ◌∙◌, arith}
use Rattle.std.specs.List.{AllPairs, swap}
use Rattle.std.specs.List.Sorted.{IsPermutation}
use Rattle.std.proofs.lemmas.Bool.{cases_eq, cases_lt}
use Rattle.std.proofs.lemmas.List.Edits.{length-swap, swapped_from_swap}
use Rattle.std.proofs.lemmas.List.Sorted.{IsPermutation-keeps}

-- any two places are so, whichever comes first
abbrev pub AnyTwo : {X : Type 0} → (X → X → Type 0) → List X → Type 0
AnyTwo {X} R xs = (i j : ℕ) (d : X) → i ≢ j → i < length xs → j < length xs → R (get_or xs i d) (get_or xs j d)

-- from pairs in order, where it's the same in either order
pub from_pairs : {X : Type 0} (R : X → X → Type 0) → ((x y : X) → R x y → R y x) → (xs : List X) → AllPairs R xs → AnyTwo R xs
from_pairs R back xs all i j d ne hi hj = elim (cases_lt i j) [
  | inl before ↦ all i j d before hj
  | inr other ↦ back (get_or xs j d) (get_or xs i d) (all j i d (omega (arith, two i j ne, other)) hi)
]
  where
    two : (i j : ℕ) → i ≢ j → (i < j → ⊥) → j < i
    two i j ne other = elim (cases_lt j i) [ inl lt ↦ lt | inr ge ↦ absurd (ne (omega arith)) ]

-- where two elements are swapped
pub swapped : {X : Type 0} (R : X → X → Type 0) (xs : List X) (a b : ℕ) → a < length xs → b < length xs → AnyTwo R xs → AnyTwo R (swap xs a b)
swapped R xs a b ha hb all i j d ne hi hj =
    let f = λ (k : ℕ). get_or xs k d in
    let s = swapped_from_swap xs (swap xs a b) a b d ha hb refl in
    let low_i : i < length xs = omega (arith, length-swap xs a b, hi) in
    let low_j : j < length xs = omega (arith, length-swap xs a b, hj) in
    elim (cases_eq i a) [
      | inl ia ↦ elim (cases_eq j b) [
        | inl jb ↦ rw (ia, jb, s.0, s.1) (all b a d (λ e. ne (ia ∙ sym e ∙ sym jb)) hb ha)
        | inr jb ↦ rw (ia, s.0, s.2 j (λ e. ne (ia ∙ sym e)) jb) (all b j d (λ e. jb (sym e)) hb low_j)
      ]
      | inr ia ↦ elim (cases_eq i b) [
        | inl ib ↦ elim (cases_eq j a) [
          | inl ja ↦ rw (ib, ja, s.1, s.0) (all a b d (λ e. ne (ib ∙ sym e ∙ sym ja)) ha hb)
          | inr ja ↦ rw (ib, s.1, s.2 j ja (λ e. ne (ib ∙ sym e))) (all a j d (λ e. ja (sym e)) ha low_j)
        ]
        | inr ib ↦ elim (cases_eq j a) [
          | inl ja ↦ rw (ja, s.0, s.2 i ia ib) (all i b d ib low_i hb)
          | inr ja ↦ elim (cases_eq j b) [
            | inl jb ↦ rw (jb, s.1, s.2 i ia ib) (all i a d ia low_i ha)
            | inr jb ↦ rw (s.2 i ia ib, s.2 j ja jb) (all i j d ne low_i low_j)
          ]
        ]
      ]
    ]

-- in another order
pub moved : {X : Type 0} (R : X → X → Type 0) (xs ys : List X) → IsPermutation xs ys → AnyTwo R xs → AnyTwo R ys
moved R xs ys moves all = IsPermutation-keeps xs (AnyTwo R) all (λ l i j hi hj known. swapped R l i j hi hj known) ys moves
