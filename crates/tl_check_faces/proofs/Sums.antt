-- What a list of items counts, where facing sides agree along it.
use Rattle.std.proofs.Common.{◌≡◌, ◌⊎◌, inl, inr, ℕ, ◌+◌, ℤ, pos, ◌+ℤ◌, ◌-ℤ◌, ◌<ℤ◌, Bool, true, false, if◌then◌else◌, List, [], ◌∷◌, ◌++◌, map, count_by, refl, sym, ap, ◌∙◌, arith}
use Rattle.std.proofs.lemmas.Int.{ints}
use Rattle.std.proofs.lemmas.List.Sums.{sum_by-cons}
use Rattle.tl_geom.specs.declared.rational.Rational.{Rational}
use Rattle.tl_map_county.specs.declared.sides.Side.{Side}
use Rattle.tl_map_county.specs.declared.sides.Side.TheVariants.{Outside}
use Rattle.tl_map_county.specs.TheMap.{MapChain}
use Rattle.tl_check_inside.specs.declared.flanks.Flanks.{Flanks}
use Rattle.tl_check_inside.specs.Inside.{flanks_at, balance}
use Rattle.tl_check_faces.proofs.Items.{Item, IsLine}
use Rattle.tl_check_faces.proofs.Sorting.{Has, numbers}
use Rattle.tl_check_faces.proofs.Toward.{near_side, far_side, flanks_are}
use Rattle.tl_check_faces.proofs.Along.{AreFacing}

-- 1 where it is so, else 0
abbrev pub number_of : Bool → ℤ
number_of b = if b then pos 1 else pos 0

as_number : (b : Bool) → pos (if b then 1 else 0) ≡ number_of b
as_number true = refl
as_number false = refl

module _ (K : ℤ) (chains : List MapChain) (r : Rational) (line : IsLine K chains r) (S : Side → Bool) where
  -- how many of the items have such a side near, less how many have one far
  abbrev pub total : List (Item K chains r) → ℤ
  total [] = pos 0
  total (x ∷ xs) = (number_of (S (near_side K chains r line x)) -ℤ number_of (S (far_side K chains r line x))) +ℤ total xs

  pub total-both : (xs ys : List (Item K chains r)) → total (xs ++ ys) ≡ total xs +ℤ total ys
  total-both [] ys = omega (arith, ints)
  total-both (x ∷ xs) ys = let rest = total-both xs ys in omega (arith, ints, rest)

  module _ (none : S Outside ≡ false) where
    pub total_is : (west : Side) (xs : List (Item K chains r)) → AreFacing K chains r line west xs → total xs ≡ number_of (S west)
    total_is west [] facing = sym (ap (λ s. number_of (S s)) facing ∙ ap number_of none)
    total_is west (x ∷ xs) facing =
        let rest = total_is (far_side K chains r line x) xs facing.1 in
        let here : number_of (S west) ≡ number_of (S (near_side K chains r line x)) = ap (λ s. number_of (S s)) facing.0 in
        omega (arith, ints, rest, here)

    -- what faces the part of a list from a place on
    pub facing_back : (west : Side) (xs ys : List (Item K chains r)) → AreFacing K chains r line west (xs ++ ys) → (side : Side) × AreFacing K chains r line side ys
    facing_back west [] ys facing = (west, facing)
    facing_back west (x ∷ xs) ys facing = facing_back (far_side K chains r line x) xs ys facing.1

  -- none of them is level
  abbrev pub AreSlanted : List (Item K chains r) → Type 0
  AreSlanted xs = (y : Item K chains r) → Has K chains r y xs → (y.segment.a.y <ℤ y.segment.b.y) ⊎ (y.segment.b.y <ℤ y.segment.a.y)

  near_count : List ℕ → ℕ
  near_count xs = count_by (λ f. S f.near) (map (flanks_at chains) xs)

  far_count : List ℕ → ℕ
  far_count xs = count_by (λ f. S f.far) (map (flanks_at chains) xs)

  near_more : (s : ℕ) (xs : List ℕ) → near_count (s ∷ xs) ≡ (if S (flanks_at chains s).near then 1 else 0) + near_count xs
  unfolding near_count
  near_more s xs = sum_by-cons (λ (f : Flanks). if S f.near then 1 else 0) (flanks_at chains s) (map (flanks_at chains) xs)

  far_more : (s : ℕ) (xs : List ℕ) → far_count (s ∷ xs) ≡ (if S (flanks_at chains s).far then 1 else 0) + far_count xs
  unfolding far_count
  far_more s xs = sum_by-cons (λ (f : Flanks). if S f.far then 1 else 0) (flanks_at chains s) (map (flanks_at chains) xs)

  no_count : pos (near_count []) -ℤ pos (far_count []) ≡ pos 0
  unfolding near_count far_count
  no_count = refl

  counts_are : (xs : List (Item K chains r)) → AreSlanted xs → pos (near_count (numbers K chains r xs)) -ℤ pos (far_count (numbers K chains r xs)) ≡ total xs
  counts_are [] slanted = no_count
  counts_are (x ∷ xs) slanted =
      let rest = counts_are xs (λ y h. slanted y (inr h)) in
      let near : pos (if S (flanks_at chains x.s).near then 1 else 0) ≡ number_of (S (near_side K chains r line x)) =
      as_number (S (flanks_at chains x.s).near) ∙ ap (λ (f : Flanks). number_of (S f.near)) (flanks_are K chains r line x (slanted x (inl refl))) in
      let far : pos (if S (flanks_at chains x.s).far then 1 else 0) ≡ number_of (S (far_side K chains r line x)) =
      as_number (S (flanks_at chains x.s).far) ∙ ap (λ (f : Flanks). number_of (S f.far)) (flanks_are K chains r line x (slanted x (inl refl))) in
      let more = near_more x.s (numbers K chains r xs) in
      let more' = far_more x.s (numbers K chains r xs) in
      sums (near_count (numbers K chains r (x ∷ xs))) (far_count (numbers K chains r (x ∷ xs))) (near_count (numbers K chains r xs)) (far_count (numbers K chains r xs))
      (if S (flanks_at chains x.s).near then 1 else 0) (if S (flanks_at chains x.s).far then 1 else 0)
      (number_of (S (near_side K chains r line x))) (number_of (S (far_side K chains r line x))) (total xs) more more' near far rest
    where
      sums : (n m n' m' a b : ℕ) (v w t : ℤ) → n ≡ a + n' → m ≡ b + m' → pos a ≡ v → pos b ≡ w → pos n' -ℤ pos m' ≡ t → pos n -ℤ pos m ≡ (v -ℤ w) +ℤ t
      sums n m n' m' a b v w t e f g h i = omega (arith, ints, e, f, g, h, i)

  pub balance_is : (xs : List (Item K chains r)) → AreSlanted xs → balance S (map (flanks_at chains) (numbers K chains r xs)) ≡ total xs
  unfolding near_count far_count
  balance_is xs slanted = counts_are xs slanted
