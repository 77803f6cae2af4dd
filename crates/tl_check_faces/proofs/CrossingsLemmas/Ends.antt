-- What counts at the ends of all chains is what counts at the starts of all darts.
use Rattle.std.proofs.Common.{◌≡◌, ℕ, ◌+◌, ◌-◌, ◌*◌, ◌/◌, ◌%◌, ◌<◌, Bool, true, false, cond, Option, Some, None, List, [], ◌∷◌, length, get_or, reverse, refl, sym, ap, ◌∙◌, arith}
use Rattle.std.specs.Prelude.{slice_get}
use Rattle.std.specs.Option.{option_map, option_and_then}
use Rattle.std.proofs.lemmas.Bool.{eq-eqb}
use Rattle.std.proofs.lemmas.List.{length-reverse, get_or-reverse}
use Rattle.std.proofs.lemmas.Option.{slice_get-get_or}
use Rattle.tl_geom.specs.declared.point.Point.{Point}
use Rattle.tl_map_county.specs.declared.sides.Side.{Side}
use Rattle.tl_map_county.specs.TheMap.{MapChain}
use Rattle.tl_map_county.specs.Darts.{directed, is_along, dart_start, dart_left}
use Rattle.tl_check_sides.specs.Sides.{dart_count, dart_right}
use Rattle.tl_check_faces.proofs.CrossingsLemmas.Darts.{no_chain}
use Rattle.tl_check_faces.proofs.CrossingsLemmas.Sums.{sum_below, sum_below-none, sum_same, sum_first, sum_pairs, eqb-other}
use Rattle.tl_check_faces.proofs.CrossingsLemmas.Telescoping.{weight, last_of, ends, left_ends, right_ends}

-- ---- the two darts of a chain

pub even_along : (c : ℕ) → is_along (2 * c) ≡ true
even_along c = eq-eqb (2 * c % 2) 0 (omega arith)

pub odd_against : (c : ℕ) → is_along (2 * c + 1) ≡ false
odd_against c = eqb-other ((2 * c + 1) % 2) 0 (λ e. omega (arith, e))

module _ (chains : List MapChain) (c : ℕ) (chain : MapChain) (is : slice_get chains c ≡ Some chain) where
  pub half : (d : ℕ) → d / 2 ≡ c → slice_get chains (d / 2) ≡ Some chain
  half d e = ap (slice_get chains) e ∙ is

  start_by : (d : ℕ) (along : Bool) → d / 2 ≡ c → is_along d ≡ along → dart_start chains d ≡ slice_get (directed along chain.points) 0
  start_by d along e f =
      ap (option_and_then (λ (z : MapChain). slice_get (directed (is_along d) z.points) 0)) (half d e)
      ∙ ap (λ b. slice_get (directed b chain.points) 0) f

  left_by : (d : ℕ) (along : Bool) → d / 2 ≡ c → is_along d ≡ along → dart_left chains d ≡ Some (cond along chain.left chain.right)
  left_by d along e f =
      ap (option_map (λ (z : MapChain). cond (is_along d) z.left z.right)) (half d e) ∙ ap (λ b. Some (cond b chain.left chain.right)) f

  pub first_start : dart_start chains (2 * c) ≡ slice_get chain.points 0
  first_start = start_by (2 * c) true (omega arith) (even_along c)

  pub last_start : dart_start chains (2 * c + 1) ≡ slice_get (reverse chain.points) 0
  last_start = start_by (2 * c + 1) false (omega arith) (odd_against c)

  pub first_left : dart_left chains (2 * c) ≡ Some chain.left
  first_left = left_by (2 * c) true (omega arith) (even_along c)

  pub last_left : dart_left chains (2 * c + 1) ≡ Some chain.right
  last_left = left_by (2 * c + 1) false (omega arith) (odd_against c)

  pub first_right : dart_right chains (2 * c) ≡ Some chain.right
  first_right = ap (dart_left chains) (ap (λ b. cond b (2 * c + 1) (2 * c - 1)) (even_along c)) ∙ last_left

  pub last_right : dart_right chains (2 * c + 1) ≡ Some chain.left
  last_right = ap (dart_left chains) (ap (λ b. cond b (2 * c + 1 + 1) (2 * c + 1 - 1)) (odd_against c) ∙ back) ∙ first_left
    where
      back : 2 * c + 1 - 1 ≡ 2 * c
      back = omega arith

-- ---- the last point

last_at : (p : Point) (points : List Point) (d : Point) → get_or (p ∷ points) (length points) d ≡ last_of p points
unfolding last_of
last_at p [] d = refl
last_at p (q ∷ points) d = last_at q points d

pub last_is : (p : Point) (points : List Point) → slice_get (reverse (p ∷ points)) 0 ≡ Some (last_of p points)
last_is p points =
    let long = length-reverse (p ∷ points) in
    slice_get-get_or (reverse (p ∷ points)) 0 p (omega (arith, long))
    ∙ ap Some (get_or-reverse (p ∷ points) 0 p (omega arith) ∙ ap (λ k. get_or (p ∷ points) k p) place ∙ last_at p points p)
  where
    place : length (p ∷ points) - 1 - 0 ≡ length points
    place = omega arith

-- ---- the sums

module _ (has : Point → Bool) (S : Side → Bool) where
  -- what a side counts at a point, if there are both
  unfoldable pub weight_of : Option Point → Option Side → ℕ
  weight_of (Some p) (Some s) = weight has S p s
  weight_of (Some p) None = 0
  weight_of None s = 0

  unfoldable pub left_weight : List MapChain → ℕ → ℕ
  left_weight chains d = weight_of (dart_start chains d) (dart_left chains d)

  unfoldable pub right_weight : List MapChain → ℕ → ℕ
  right_weight chains d = weight_of (dart_start chains d) (dart_right chains d)

  ends_are : (points : List Point) (first last : Side) →
      weight_of (slice_get points 0) (Some first) + weight_of (slice_get (reverse points) 0) (Some last) ≡ ends has S points first last
  unfolding weight_of ends
  ends_are [] first last = refl
  ends_are (p ∷ points) first last = ap (λ o. weight has S p first + weight_of o (Some last)) (last_is p points)

  left_pair : (chains : List MapChain) (c : ℕ) (chain : MapChain) → slice_get chains c ≡ Some chain →
      left_weight chains (2 * c) + left_weight chains (2 * c + 1) ≡ ends has S chain.points chain.left chain.right
  unfolding left_weight
  left_pair chains c chain is =
      (λ i. weight_of (first_start chains c chain is i) (first_left chains c chain is i)
      + weight_of (last_start chains c chain is i) (last_left chains c chain is i))
      ∙ ends_are chain.points chain.left chain.right

  right_pair : (chains : List MapChain) (c : ℕ) (chain : MapChain) → slice_get chains c ≡ Some chain →
      right_weight chains (2 * c) + right_weight chains (2 * c + 1) ≡ ends has S chain.points chain.right chain.left
  unfolding right_weight
  right_pair chains c chain is =
      (λ i. weight_of (first_start chains c chain is i) (first_right chains c chain is i)
      + weight_of (last_start chains c chain is i) (last_right chains c chain is i))
      ∙ ends_are chain.points chain.right chain.left

  of_left : Option MapChain → ℕ
  of_left None = 0
  of_left (Some c) = ends has S c.points c.left c.right

  of_right : Option MapChain → ℕ
  of_right None = 0
  of_right (Some c) = ends has S c.points c.right c.left

  left_list : (chains : List MapChain) → sum_below (λ c. of_left (slice_get chains c)) (length chains) ≡ left_ends has S chains
  unfolding of_left left_ends
  left_list [] = sum_below-none (λ c. of_left (slice_get [] c))
  left_list (c ∷ chains) =
      sum_first (λ k. of_left (slice_get (c ∷ chains) k)) (length chains) ∙ ap (λ n. ends has S c.points c.left c.right + n) (left_list chains)

  right_list : (chains : List MapChain) → sum_below (λ c. of_right (slice_get chains c)) (length chains) ≡ right_ends has S chains
  unfolding of_right right_ends
  right_list [] = sum_below-none (λ c. of_right (slice_get [] c))
  right_list (c ∷ chains) =
      sum_first (λ k. of_right (slice_get (c ∷ chains) k)) (length chains) ∙ ap (λ n. ends has S c.points c.right c.left + n) (right_list chains)

  pub left_sum : (chains : List MapChain) → sum_below (left_weight chains) (dart_count chains) ≡ left_ends has S chains
  unfolding of_left
  left_sum chains =
      sum_pairs (left_weight chains) (length chains)
      ∙ sum_same (λ c. left_weight chains (2 * c) + left_weight chains (2 * c + 1)) (λ c. of_left (slice_get chains c)) (length chains) each
      ∙ left_list chains
    where
      each : (c : ℕ) → c < length chains → left_weight chains (2 * c) + left_weight chains (2 * c + 1) ≡ of_left (slice_get chains c)
      each c lt =
          let is : slice_get chains c ≡ Some (get_or chains c no_chain) = slice_get-get_or chains c no_chain lt in
          left_pair chains c (get_or chains c no_chain) is ∙ ap of_left (sym is)

  pub right_sum : (chains : List MapChain) → sum_below (right_weight chains) (dart_count chains) ≡ right_ends has S chains
  unfolding of_right
  right_sum chains =
      sum_pairs (right_weight chains) (length chains)
      ∙ sum_same (λ c. right_weight chains (2 * c) + right_weight chains (2 * c + 1)) (λ c. of_right (slice_get chains c)) (length chains) each
      ∙ right_list chains
    where
      each : (c : ℕ) → c < length chains → right_weight chains (2 * c) + right_weight chains (2 * c + 1) ≡ of_right (slice_get chains c)
      each c lt =
          let is : slice_get chains c ≡ Some (get_or chains c no_chain) = slice_get-get_or chains c no_chain lt in
          right_pair chains c (get_or chains c no_chain) is ∙ ap of_right (sym is)
