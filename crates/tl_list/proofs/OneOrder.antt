-- Lists that rise by two numbers and have the same pairs of numbers have them at the same places.
use Rattle.std.proofs.Common.{◌≡◌, ◌⊎◌, inl, inr, ℕ, zero, suc, ◌<◌, List, [], ◌∷◌, length, get_or, refl, sym, subst, ◌∙◌, arith}
use Rattle.std.specs.List.{Any, AllPairs, Contains}

module _ {X : Type 0} (first second : X → ℕ) where
  -- the pairs of numbers are equal
  pub record AreOne (x y : X) : Type 0 where
    pub first_is : first x ≡ first y
    pub second_is : second x ≡ second y

  -- the first pair comes before the second
  abbrev Before : X → X → Type 0
  Before x y = (first x < first y) ⊎ ((first x ≡ first y) × (second x < second y))

  -- the lists have equal pairs at each place
  abbrev pub AreInOne : List X → List X → Type 0
  AreInOne [] [] = Unit {0}
  AreInOne [] (y ∷ ys) = ⊥
  AreInOne (x ∷ xs) [] = ⊥
  AreInOne (x ∷ xs) (y ∷ ys) = AreOne x y × AreInOne xs ys

  one_not_before : (x y : X) → AreOne x y → ¬ Before x y
  one_not_before x y one (inl lt) = omega (arith, one.first_is, lt)
  one_not_before x y one (inr more) = omega (arith, one.second_is, more.1)

  not_both : (x y : X) → Before x y → ¬ Before y x
  not_both x y (inl a) (inl b) = omega (arith, a, b)
  not_both x y (inl a) (inr b) = omega (arith, a, b.0)
  not_both x y (inr a) (inl b) = omega (arith, a.0, b)
  not_both x y (inr a) (inr b) = omega (arith, a.1, b.1)

  before_one : (x y z : X) → Before x z → AreOne y z → Before x y
  before_one x y z (inl lt) one = inl (omega (arith, lt, one.first_is))
  before_one x y z (inr more) one = inr (omega (arith, more.0, one.first_is), omega (arith, more.1, one.second_is))

  first_or : (x y : X) (ys : List X) → Any (AreOne x) (y ∷ ys) → AreOne x y ⊎ Any (AreOne x) ys
  first_or x y ys named = go named.0 named.1 named.2 named.3 named.4
    where
      go : (k : ℕ) (z : X) → k < length (y ∷ ys) → get_or (y ∷ ys) k z ≡ z → AreOne x z → AreOne x y ⊎ Any (AreOne x) ys
      go zero z lt is one = inl (rw is one)
      go (suc k) z lt is one = inr (k, z, omega (arith, lt), is, one)

  before_rest : (x y : X) (ys : List X) → AllPairs Before (y ∷ ys) → Any (AreOne x) ys → Before y x
  before_rest x y ys up named = before_one y x named.1 (subst (Before y) named.3 (up 0 (suc named.0) named.1 (omega arith) (omega (arith, named.2)))) named.4

  rest_up : (y : X) (ys : List X) → AllPairs Before (y ∷ ys) → AllPairs Before ys
  rest_up y ys up i j d lt within = up (suc i) (suc j) d (omega (arith, lt)) (omega (arith, within))

  itself : (x : X) → AreOne x x
  itself x = record { first_is = refl; second_is = refl }

  turned : (x y : X) → AreOne x y → AreOne y x
  turned x y one = record { first_is = sym one.first_is; second_is = sym one.second_is }

  joined : (x y z : X) → AreOne x y → AreOne z y → AreOne x z
  joined x y z one other = record { first_is = one.first_is ∙ sym other.first_is; second_is = one.second_is ∙ sym other.second_is }

  same_first : (x y : X) (xs ys : List X) → AllPairs Before (x ∷ xs) → AllPairs Before (y ∷ ys) → Any (AreOne x) (y ∷ ys) → Any
      (AreOne y) (x ∷ xs) → AreOne x y
  same_first x y xs ys up_x up_y there back = elim (first_or x y ys there) [
    | inl one ↦ one
    | inr later ↦ elim (first_or y x xs back) [
      | inl one ↦ turned y x one
      | inr other ↦ absurd (not_both x y (before_rest y x xs up_x other) (before_rest x y ys up_y later))
    ]
  ]

  -- what stands in the rest of a list has its pair in the rest of the other
  in_rest : (x y z : X) (xs ys : List X) → AllPairs Before (x ∷ xs) → AreOne x y → Contains xs z → Any (AreOne z) (y ∷ ys) → Any (AreOne z) ys
  in_rest x y z xs ys up one held named = elim (first_or z y ys named) [
    | inr later ↦ later
    | inl here ↦ absurd (one_not_before x z (joined x y z one here) (before_rest z x xs up (held.0, z, held.1, held.2, itself z)))
  ]

  held_rest : (x z : X) (xs : List X) → Contains xs z → Contains (x ∷ xs) z
  held_rest x z xs held = (suc held.0, omega (arith, held.1), held.2)

  pub one_order : (xs ys : List X) → AllPairs Before xs → AllPairs Before ys → ((x : X) → Contains xs x → Any (AreOne x) ys) →
      ((y : X) → Contains ys y → Any (AreOne y) xs) → AreInOne xs ys
  one_order [] [] up_x up_y there back = tt
  one_order [] (y ∷ ys) up_x up_y there back =
      absurd (let named = back y (0, omega arith, refl) in let within : named.0 < 0 = named.2 in omega (arith, within))
  one_order (x ∷ xs) [] up_x up_y there back =
      absurd (let named = there x (0, omega arith, refl) in let within : named.0 < 0 = named.2 in omega (arith, within))
  one_order (x ∷ xs) (y ∷ ys) up_x up_y there back =
      let one : AreOne x y = same_first x y xs ys up_x up_y (there x (0, omega arith, refl)) (back y (0, omega arith, refl)) in
      let rest : AreInOne xs ys = one_order xs ys (rest_up x xs up_x) (rest_up y ys up_y)
      (λ z held. in_rest x y z xs ys up_x one held (there z (held_rest x z xs held)))
      (λ z held. in_rest y x z ys xs up_y (turned x y one) held (back z (held_rest y z ys held)))
      in
      (one, rest)
