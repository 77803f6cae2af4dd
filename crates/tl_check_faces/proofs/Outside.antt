-- Far out from all points of chains lies the outside.
use Rattle.std.proofs.Common.{◌≡◌, ◌⊎◌, ⊎_elim, ℕ, ◌+◌, ℤ, pos, ◌-ℤ◌, ◌*ℤ◌, ◌<ℤ◌, ◌≤ℤ◌, List, [], length, refl, arith}
use Rattle.std.proofs.lemmas.Int.{ints, by_lt_z}
use Rattle.tl_geom.specs.declared.point.Point.{Point}
use Rattle.tl_geom.specs.declared.rational.Rational.{Rational}
use Rattle.tl_geom.specs.declared.segment.Segment.{Segment}
use Rattle.tl_geom.proofs.Polynomials.{num, ◌⊖◌, ◌⊗◌, same}
use Rattle.tl_geom.proofs.Signs.{mono, cancel_lt, product_at_least}
use Rattle.tl_map_county.specs.declared.sides.Side.TheVariants.{Outside}
use Rattle.tl_map_county.specs.TheMap.{MapChain}
use Rattle.tl_map_county.specs.Segments.{segments_before}
use Rattle.tl_tree_index.specs.Hits.{AreHits}
use Rattle.tl_check_inside.specs.Inside.{is_polygon}
use Rattle.tl_check_planar.specs.ByHeight.Neighbours.{IsNumbered}
use Rattle.tl_check_faces.specs.Facing.{IsOff}
use Rattle.tl_check_faces.specs.Truth.{LiesAt}
use Rattle.tl_check_faces.proofs.Crossing.{IsEastUp, IsWestUp, spread}
use Rattle.tl_check_faces.proofs.Bounds.{IsBounded, AreBounded}
use Rattle.tl_check_faces.proofs.Along.{AreFaced}
use Rattle.tl_check_faces.proofs.OnePolygon.{IsEastHit, IsWestHit, counted_by, west_counted}

first_turned : (y z : ℤ) → (pos 0 -ℤ y) *ℤ z ≡ pos 0 -ℤ y *ℤ z
first_turned y z = same ((num (pos 0) ⊖ num y) ⊗ num z) (num (pos 0) ⊖ num y ⊗ num z) (omega arith)

pub last_turned : (y z : ℤ) → y *ℤ (pos 0 -ℤ z) ≡ pos 0 -ℤ y *ℤ z
last_turned y z = same (num y ⊗ (num (pos 0) ⊖ num z)) (num (pos 0) ⊖ num y ⊗ num z) (omega arith)

-- a way of u to the east and v to the north, and a place within its latitudes that is at least as far east as both its ends
past_ends : (u v x y d : ℤ) → pos 0 ≤ℤ v → pos 0 ≤ℤ x → (d *ℤ u) ≤ℤ x → pos 0 ≤ℤ y → y ≤ℤ (d *ℤ v) → (u *ℤ y) ≤ℤ (v *ℤ x)
past_ends u v x y d up first last low high =
    by_lt_z u (pos 0)
    (λ less.
    let one = product_at_least (pos 0 -ℤ u) y (omega (arith, ints, less)) low in
    let other = product_at_least v x up first in
    let e = first_turned u y in
    omega (arith, ints, one, other, e))
    (λ more.
    let one : (u *ℤ y) ≤ℤ (u *ℤ (d *ℤ v)) = mono u y (d *ℤ v) more high in
    let other : (v *ℤ (d *ℤ u)) ≤ℤ (v *ℤ x) = mono v (d *ℤ u) x up last in
    let e : u *ℤ (d *ℤ v) ≡ v *ℤ (d *ℤ u) = same (num u ⊗ (num d ⊗ num v)) (num v ⊗ (num d ⊗ num u)) (omega arith) in
    omega (arith, ints, one, other, e))

module _ (chains : List MapChain) (b : ℕ) (bounded : AreBounded b chains) (q : Rational) where
  some_d : pos 0 ≤ℤ q.d
  some_d = let d : pos 0 <ℤ q.d = q.above_zero in omega (arith, ints, d)

  first_is : (s : ℕ) (u : Segment) → IsNumbered chains s u → IsBounded b u.a
  first_is s u is = bounded is.c is.k is.joins.chain u.a is.joins.is is.joins.from

  last_is : (s : ℕ) (u : Segment) → IsNumbered chains s u → IsBounded b u.b
  last_is s u is = bounded is.c (is.k + 1) is.joins.chain u.b is.joins.is is.joins.to

  at_most : (v : ℤ) → v ≤ℤ pos b → (q.d *ℤ v) ≤ℤ (q.d *ℤ pos b)
  at_most v h = mono q.d v (pos b) some_d h

  at_least : (v : ℤ) → (pos 0 -ℤ pos b) ≤ℤ v → (pos 0 -ℤ q.d *ℤ pos b) ≤ℤ (q.d *ℤ v)
  at_least v h =
      let m : (q.d *ℤ (pos 0 -ℤ pos b)) ≤ℤ (q.d *ℤ v) = mono q.d (pos 0 -ℤ pos b) v some_d h in
      let e = last_turned q.d (pos b) in omega (arith, ints, m, e)

  -- q is far out: north, south or east of all, or west of all
  abbrev pub IsFarOut : Type 0
  IsFarOut = (((q.d *ℤ pos b) ≤ℤ q.y) ⊎ (q.y <ℤ (pos 0 -ℤ q.d *ℤ pos b))) ⊎ ((q.d *ℤ pos b) ≤ℤ q.x)

  not_east_up : (v w : Point) → IsBounded b v → IsBounded b w → IsFarOut → ¬ IsEastUp v w q
  not_east_up v w one other out k =
      let low = k.low in let high = k.high in let turn = k.turn in
      ⊎_elim
      (⊎_elim
      (λ north. let m = at_most w.y other.north in omega (arith, ints, m, north, high))
      (λ south. let m = at_least v.y one.south in omega (arith, ints, m, south, low)))
      (λ east.
      let a = at_most v.x one.east in let c = at_most w.x other.east in
      let x = spread q.d v.x w.x in let y = spread q.d v.y w.y in
      let d : pos 0 <ℤ q.d = q.above_zero in
      let up : v.y <ℤ w.y = cancel_lt q.d v.y w.y some_d (omega (arith, ints, low, high)) in
      let past = past_ends (w.x -ℤ v.x) (w.y -ℤ v.y) (q.x -ℤ q.d *ℤ v.x) (q.y -ℤ q.d *ℤ v.y) q.d (omega (arith, ints, up)) (omega (arith, ints, a, east))
      (omega (arith, ints, x, c, east)) (omega (arith, ints, low)) (omega (arith, ints, y, high)) in
      omega (arith, ints, past, turn))
      out

  not_west_up : (v w : Point) → IsBounded b v → IsBounded b w → q.x ≤ℤ (pos 0 -ℤ q.d *ℤ pos b) → ¬ IsWestUp v w q
  not_west_up v w one other west k =
      let low = k.low in let high = k.high in let turn = k.turn in
      let a = at_least v.x one.west in let c = at_least w.x other.west in
      let x = spread q.d v.x w.x in let y = spread q.d v.y w.y in
      let x' = last_turned q.d (w.x -ℤ v.x) in
      let up : v.y <ℤ w.y = cancel_lt q.d v.y w.y some_d (omega (arith, ints, low, high)) in
      let past = past_ends (pos 0 -ℤ (w.x -ℤ v.x)) (w.y -ℤ v.y) (pos 0 -ℤ (q.x -ℤ q.d *ℤ v.x)) (q.y -ℤ q.d *ℤ v.y) q.d
      (omega (arith, ints, up)) (omega (arith, ints, a, west))
      (omega (arith, ints, x, x', c, west)) (omega (arith, ints, low)) (omega (arith, ints, y, high)) in
      let e = first_turned (w.x -ℤ v.x) (q.y -ℤ q.d *ℤ v.y) in
      let f = last_turned (w.y -ℤ v.y) (q.x -ℤ q.d *ℤ v.x) in
      omega (arith, ints, past, turn, e, f)

  no_east : IsFarOut → (s : ℕ) → ¬ IsEastHit chains q s
  no_east out s h =
      let one = first_is s h.segment h.is in let other = last_is s h.segment h.is in
      ⊎_elim (λ k. not_east_up h.segment.a h.segment.b one other out k) (λ k. not_east_up h.segment.b h.segment.a other one out k) h.east

  no_west : q.x ≤ℤ (pos 0 -ℤ q.d *ℤ pos b) → (s : ℕ) → ¬ IsWestHit chains q s
  no_west west s h =
      let one = first_is s h.segment h.is in let other = last_is s h.segment h.is in
      ⊎_elim (λ k. not_west_up h.segment.a h.segment.b one other west k) (λ k. not_west_up h.segment.b h.segment.a other one west k) h.west

  no_hits : (hit : ℕ → Type 0) → ((s : ℕ) → ¬ hit s) → AreHits (segments_before chains (length chains)) hit []
  no_hits hit never = record { once = λ i lt h. absurd (never i h); others = λ i none. refl; known = λ i le. refl }

  pub outside : IsFarOut → LiesAt chains q Outside
  outside out i = counted_by chains q (is_polygon i) (pos 0) [] (no_hits (IsEastHit chains q) (no_east out)) refl

  pub outside_west : AreFaced chains → IsOff chains q → q.x ≤ℤ (pos 0 -ℤ q.d *ℤ pos b) → LiesAt chains q Outside
  outside_west faced off west i = west_counted chains faced q off (is_polygon i) (pos 0) [] refl (no_hits (IsWestHit chains q) (no_west west)) refl
