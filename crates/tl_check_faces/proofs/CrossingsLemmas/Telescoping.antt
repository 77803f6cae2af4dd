-- Along a chain the crossings of a height add up to what is above it at the chain's two ends.
use Rattle.std.proofs.Common.{◌≡◌, ℕ, ◌+◌, ℤ, Bool, true, false, cond, List, [], ◌∷◌, count_by, refl, arith}
use Rattle.std.specs.Prelude.{int_lt}
use Rattle.std.proofs.lemmas.Int.{ints}
use Rattle.std.proofs.lemmas.List.Sums.{sum_by-cons, sum_by-append}
use Rattle.tl_geom.specs.declared.point.Point.{Point}
use Rattle.tl_map_county.specs.declared.sides.Side.{Side}
use Rattle.tl_map_county.specs.TheMap.{MapChain}
use Rattle.tl_check_inside.specs.declared.flanks.Flanks.{Flanks}
use Rattle.tl_check_inside.specs.Inside.{flanks_between}
use Rattle.tl_check_faces.specs.Crossings.Heights.{is_above, parts, crossed_from, crossed_along, crossed_at}
use Rattle.tl_check_inside.proofs.Sides.{is_lt as int_lt-true, no_lt as int_lt-false}
use Rattle.tl_check_planar.proofs.ByHeight.Rising.{lt_of, le_of}

abbrev pub bit : Bool → ℕ
bit b = cond b 1 0

-- ---- what counts at the ends of chains, by a weight of points

-- the last of some points
unfoldable pub last_of : Point → List Point → Point
last_of p [] = p
last_of p (q ∷ points) = last_of q points

module _ (has : Point → Bool) (S : Side → Bool) where
  -- a side counts at a point that has the weight
  abbrev pub weight : Point → Side → ℕ
  weight p s = cond (has p) (bit (S s)) 0

  -- what counts at the two ends of a chain
  unfoldable pub ends : List Point → (first last : Side) → ℕ
  ends [] first last = 0
  ends (p ∷ points) first last = weight p first + weight (last_of p points) last

  unfoldable pub left_ends : List MapChain → ℕ
  left_ends [] = 0
  left_ends (c ∷ chains) = ends c.points c.left c.right + left_ends chains

  unfoldable pub right_ends : List MapChain → ℕ
  right_ends [] = 0
  right_ends (c ∷ chains) = ends c.points c.right c.left + right_ends chains

-- ---- the crossings of a height: a point above it has the weight

module _ (y : ℤ) (S : Side → Bool) where
  -- a side counts at a point above the height
  abbrev counts : Point → Side → ℕ
  counts p s = weight (is_above y) S p s

  -- what a flank of a segment counts, if it crosses the height
  abbrev pub near_step : (p q : Point) (left right : Side) → ℕ
  near_step p q left right = cond (parts y p q) (bit (S (flanks_between p q left right).near)) 0

  abbrev pub far_step : (p q : Point) (left right : Side) → ℕ
  far_step p q left right = cond (parts y p q) (bit (S (flanks_between p q left right).far)) 0

  step : (p q : Point) (left right : Side) →
      near_step p q left right + (counts p left + counts q right) ≡ far_step p q left right + (counts p right + counts q left)
  step p q left right = go (is_above y p) (is_above y q) refl refl
    where
      go : (a b : Bool) → is_above y p ≡ a → is_above y q ≡ b →
          near_step p q left right + (counts p left + counts q right) ≡ far_step p q left right + (counts p right + counts q left)
      go true true e f = rw (e, f) (omega arith)
      go false false e f = rw (e, f) (omega arith)
      go false true e f =
          let up : int_lt p.y q.y ≡ true = int_lt-true p.y q.y (let low = le_of y p.y e in let high = lt_of y q.y f in omega (arith, ints, low, high)) in
          rw (e, f, up) (omega arith)
      go true false e f =
          let down : int_lt p.y q.y ≡ false = int_lt-false p.y q.y (let low = le_of y q.y f in let high = lt_of y p.y e in omega (arith, ints, low, high)) in
          rw (e, f, down) (omega arith)

  pub count_from : (P : Flanks → Bool) (p q : Point) (points : List Point) (left right : Side) →
      count_by P (crossed_from y p (q ∷ points) left right) ≡
      cond (parts y p q) (bit (P (flanks_between p q left right))) 0 + count_by P (crossed_from y q points left right)
  count_from P p q points left right = go (parts y p q) refl
    where
      rest : List Flanks
      rest = crossed_from y q points left right

      go : (b : Bool) → parts y p q ≡ b →
          count_by P (cond (parts y p q) (flanks_between p q left right ∷ rest) rest) ≡
          cond (parts y p q) (bit (P (flanks_between p q left right))) 0 + count_by P rest
      go true e = rw e (sum_by-cons (λ f. bit (P f)) (flanks_between p q left right) rest)
      go false e = rw e (omega arith)

  unfoldable pub near_count : List Flanks → ℕ
  near_count fs = count_by (λ f. S f.near) fs

  unfoldable pub far_count : List Flanks → ℕ
  far_count fs = count_by (λ f. S f.far) fs

  from : (p : Point) (points : List Point) (left right : Side) →
      near_count (crossed_from y p points left right) + (counts p left + counts (last_of p points) right) ≡
      far_count (crossed_from y p points left right) + (counts p right + counts (last_of p points) left)
  unfolding last_of near_count far_count
  from p [] left right = omega arith
  from p (q ∷ points) left right =
      let here = step p q left right in
      let rest = from q points left right in
      let near = count_from (λ f. S f.near) p q points left right in
      let far = count_from (λ f. S f.far) p q points left right in
      omega (arith, here, rest, near, far)

  along : (points : List Point) (left right : Side) →
      near_count (crossed_along y points left right) + ends (is_above y) S points left right ≡
      far_count (crossed_along y points left right) + ends (is_above y) S points right left
  unfolding near_count far_count ends
  along [] left right = refl
  along (p ∷ points) left right = from p points left right

  pub telescoped : (chains : List MapChain) →
      near_count (crossed_at y chains) + left_ends (is_above y) S chains ≡ far_count (crossed_at y chains) + right_ends (is_above y) S chains
  unfolding near_count far_count left_ends right_ends
  telescoped [] = refl
  telescoped (c ∷ chains) =
      let here = along c.points c.left c.right in
      let rest = telescoped chains in
      let near = sum_by-append (λ f. bit (S f.near)) (crossed_along y c.points c.left c.right) (crossed_at y chains) in
      let far = sum_by-append (λ f. bit (S f.far)) (crossed_along y c.points c.left c.right) (crossed_at y chains) in
      omega (arith, here, rest, near, far)
