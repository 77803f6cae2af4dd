-- Of two that pass a test, the one behind which none passes is the second.
use Rattle.std.proofs.Common.{◌≡◌, ℕ, zero, suc, ◌<◌, Bool, true, false, List, [], ◌∷◌, drop, filter, Some, None, refl, ap, arith, inl, inr}
use Rattle.std.specs.Prelude.{slice_get}
use Rattle.std.specs.List.{list_any}
use Rattle.std.proofs.lemmas.Bool.{cases_Bool}

-- the head of a list
same_head : {X : Type 0} (x y : X) (xs ys : List X) → x ∷ xs ≡ y ∷ ys → xs ≡ ys
same_head x y xs ys e = cc

-- a filter passes over one that fails
passed_over : {X : Type 0} (p : X → Bool) (x : X) (xs ys : List X) → p x ≡ false → filter p (x ∷ xs) ≡ ys → filter p xs ≡ ys
passed_over p x xs ys fails e = rw fails at e

taken : {X : Type 0} (p : X → Bool) (x y : X) (xs ys : List X) → p x ≡ true → filter p (x ∷ xs) ≡ y ∷ ys → filter p xs ≡ ys
taken p x y xs ys passes e = let f : x ∷ filter p xs ≡ y ∷ ys = rw passes at e in same_head x y (filter p xs) ys f

none_there : {X : Type 0} (p : X → Bool) (xs : List X) (i : ℕ) (x : X) → filter p xs ≡ [] → slice_get xs i ≡ Some x → p x ≡ true → ⊥
none_there p [] i x none here passes = let wrong : None ≡ Some x = here in cc
none_there p (y ∷ xs) zero x none here passes =
    let e : y ≡ x = cc in
    let at : p y ≡ true = rw e passes in
    let wrong : y ∷ filter p xs ≡ [] = rw at at none in cc
none_there p (y ∷ xs) (suc i) x none here passes = elim (cases_Bool (p y)) [
  | inl holds ↦ let wrong : y ∷ filter p xs ≡ [] = rw holds at none in cc
  | inr failing ↦ none_there p xs i x (passed_over p y xs [] failing none) here passes
]

none_any : {X : Type 0} (p : X → Bool) (xs : List X) → filter p xs ≡ [] → list_any p xs ≡ false
none_any p [] none = refl
none_any p (y ∷ xs) none = elim (cases_Bool (p y)) [
  | inl holds ↦ absurd (let wrong : y ∷ filter p xs ≡ [] = rw holds at none in cc)
  | inr failing ↦ rw failing (none_any p xs (passed_over p y xs [] failing none))
]

some_any : {X : Type 0} (p : X → Bool) (xs : List X) (x : X) (more : List X) → filter p xs ≡ x ∷ more → list_any p xs ≡ true
some_any p [] x more some = absurd (let wrong : [] ≡ x ∷ more = some in cc)
some_any p (y ∷ xs) x more some = elim (cases_Bool (p y)) [
  | inl holds ↦ rw holds refl
  | inr failing ↦ rw failing (some_any p xs x more (passed_over p y xs (x ∷ more) failing some))
]

-- one alone passes: it is that one, and none behind it passes
one_last : {X : Type 0} (p : X → Bool) (xs : List X) (b : X) (s i : ℕ) (c d : X) → filter p xs ≡ b ∷ [] → slice_get xs s ≡ Some c → p c ≡ true
    → slice_get xs i ≡ Some d → p d ≡ true → (i ≡ s) × (list_any p (drop (suc i) xs) ≡ false)
one_last p [] b s i c d one here holds there too = absurd (let wrong : None ≡ Some c = here in cc)
one_last p (y ∷ xs) b zero zero c d one here holds there too =
    let e : y ≡ c = cc in
    let at : p y ≡ true = rw e holds in
    (refl, none_any p xs (taken p y b xs [] at one))
one_last p (y ∷ xs) b zero (suc i) c d one here holds there too = absurd (
    let e : y ≡ c = cc in
    let at : p y ≡ true = rw e holds in
    none_there p xs i d (taken p y b xs [] at one) there too)
one_last p (y ∷ xs) b (suc s) zero c d one here holds there too = absurd (
    let e : y ≡ d = cc in
    let at : p y ≡ true = rw e too in
    none_there p xs s c (taken p y b xs [] at one) here holds)
one_last p (y ∷ xs) b (suc s) (suc i) c d one here holds there too = elim (cases_Bool (p y)) [
  | inl passes ↦ absurd (none_there p xs s c (taken p y b xs [] passes one) here holds)
  | inr fails ↦ let rest = one_last p xs b s i c d (passed_over p y xs (b ∷ []) fails one) here holds there too in (ap suc rest.0, rest.1)
]

-- two pass: one of them is the second, behind which none passes, or it isn't, and one passes behind it
pub data IsSecond (i s : ℕ) (any : Bool) : Type 0 where
  second : i ≡ s → any ≡ false → IsSecond i s any
  first : (i ≡ s → ⊥) → any ≡ true → IsSecond i s any

pub two_last : {X : Type 0} (p : X → Bool) (xs : List X) (f s i : ℕ) (a b d : X) → f < s → filter p xs ≡ a ∷ b ∷ [] → slice_get xs f ≡ Some a → p a ≡ true
    → slice_get xs s ≡ Some b → p b ≡ true → slice_get xs i ≡ Some d → p d ≡ true → IsSecond i s (list_any p (drop (suc i) xs))
two_last p [] f s i a b d before two here holds there too it passes = absurd (let wrong : None ≡ Some a = here in cc)
two_last p (y ∷ xs) f zero i a b d before two here holds there too it passes = absurd (omega arith)
two_last p (y ∷ xs) f (suc s) zero a b d before two here holds there too it passes =
    let e : y ≡ d = cc in
    let at : p y ≡ true = rw e passes in
    first (λ same. omega arith) (some_any p xs b [] (taken p y a xs (b ∷ []) at two))
two_last p (y ∷ xs) zero (suc s) (suc i) a b d before two here holds there too it passes =
    let e : y ≡ a = cc in
    let at : p y ≡ true = rw e holds in
    let last = one_last p xs b s i b d (taken p y a xs (b ∷ []) at two) there too it passes in
    second (ap suc last.0) last.1
two_last p (y ∷ xs) (suc f) (suc s) (suc i) a b d before two here holds there too it passes = elim (cases_Bool (p y)) [
  | inl at ↦
      let last = one_last p xs b s i b d (taken p y a xs (b ∷ []) at two) there too it passes in
      second (ap suc last.0) last.1
  | inr fails ↦ elim (two_last p xs f s i a b d (omega arith) (passed_over p y xs (a ∷ b ∷ []) fails two) here holds there too it passes) [
    | second same none ↦ second (ap suc same) none
    | first other some ↦ first (λ same. other (omega arith)) some
  ]
]
