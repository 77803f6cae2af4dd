-- Where facing sides agree along a list, near and far sides cancel but for the near side of the first.
use Rattle.std.proofs.Common.{◌≡◌, ℕ, ◌+◌, pos, ◌-ℤ◌, Bool, true, false, if◌then◌else◌, List, [], ◌∷◌, map, count_by, refl, sym, ap, ◌∙◌, arith}
use Rattle.std.proofs.lemmas.Int.{ints}
use Rattle.std.proofs.lemmas.List.Sums.{sum_by-cons}
use Rattle.tl_map_county.specs.declared.sides.Side.{Side}
use Rattle.tl_map_county.specs.declared.sides.Side.TheVariants.{Outside}
use Rattle.tl_map_county.specs.TheMap.{MapChain}
use Rattle.tl_check_inside.specs.declared.flanks.Flanks.{Flanks}
use Rattle.tl_check_inside.specs.Inside.{flanks_at, balance}
use Rattle.tl_check_gaps.specs.Beside.{AreFacing, seen_side}
use Rattle.tl_check_active.proofs.Bits.{bit}

module _ (chains : List MapChain) (S : Side → Bool) (none : S Outside ≡ false) where
  near_of : List ℕ → ℕ
  near_of list = count_by (λ f. S f.near) (map (flanks_at chains) list)

  far_of : List ℕ → ℕ
  far_of list = count_by (λ f. S f.far) (map (flanks_at chains) list)

  near_more : (s : ℕ) (list : List ℕ) → near_of (s ∷ list) ≡ bit (S (flanks_at chains s).near) + near_of list
  unfolding near_of
  near_more s list = sum_by-cons (λ (f : Flanks). bit (S f.near)) (flanks_at chains s) (map (flanks_at chains) list)

  far_more : (s : ℕ) (list : List ℕ) → far_of (s ∷ list) ≡ bit (S (flanks_at chains s).far) + far_of list
  unfolding far_of
  far_more s list = sum_by-cons (λ (f : Flanks). bit (S f.far)) (flanks_at chains s) (map (flanks_at chains) list)

  near_none : near_of [] ≡ 0
  unfolding near_of
  near_none = refl

  far_none : far_of [] ≡ 0
  unfolding far_of
  far_none = refl

  nothing_outside : (side : Side) → side ≡ Outside → bit (S side) ≡ 0
  nothing_outside side e = ap (λ x. bit (S x)) e ∙ ap bit none

  cancelled : (list : List ℕ) → AreFacing chains list → near_of list ≡ far_of list + bit (S (seen_side chains list))
  cancelled [] facing = let last = nothing_outside Outside refl in let n = near_none in let f = far_none in omega (arith, last, n, f)
  cancelled (s ∷ []) facing =
      let last = nothing_outside (flanks_at chains s).far facing in
      let n = near_none in let f = far_none in
      let more = near_more s [] in let more' = far_more s [] in
      omega (arith, last, n, f, more, more')
  cancelled (s ∷ (t ∷ rest)) facing =
      let later = cancelled (t ∷ rest) facing.1 in
      let face : bit (S (flanks_at chains s).far) ≡ bit (S (flanks_at chains t).near) = ap (λ x. bit (S x)) facing.0 in
      let more = near_more s (t ∷ rest) in let more' = far_more s (t ∷ rest) in
      omega (arith, later, face, more, more')

  as_number : (b : Bool) (n m : ℕ) → n ≡ m + bit b → pos n -ℤ pos m ≡ (if b then pos 1 else pos 0)
  as_number true n m e = omega (arith, ints, e)
  as_number false n m e = omega (arith, ints, e)

  pub balance_is : (list : List ℕ) → AreFacing chains list → (if S (seen_side chains list) then pos 1 else pos 0) ≡ balance S (map (flanks_at chains) list)
  unfolding near_of far_of
  balance_is list facing = sym (as_number (S (seen_side chains list)) (near_of list) (far_of list) (cancelled list facing))
