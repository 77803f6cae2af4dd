-- What stays as it is about a place: on which side of the ends of segments places near it lie, and of segments that don't hold it.
use Rattle.std.proofs.Common.{◌≡◌, ⊎_elim, ℤ, pos, ◌+ℤ◌, ◌-ℤ◌, ◌*ℤ◌, ◌<ℤ◌, ◌≤ℤ◌, arith}
use Rattle.std.proofs.lemmas.Int.{ints, by_lt_z}
use Rattle.tl_geom.specs.declared.point.Point.{Point}
use Rattle.tl_geom.specs.declared.rational.Rational.{Rational}
use Rattle.tl_geom.proofs.Polynomials.{num, ◌⊕◌, ◌⊖◌, ◌⊗◌, same}
use Rattle.tl_geom.proofs.Signs.{mono, cancel_lt, product_at_least, at_least_of_product, above_of_product, sign}
use Rattle.tl_check_planar.specs.ByHeight.Heights.{turn_at}
use Rattle.tl_check_faces.specs.Facing.{step_x, step_y}
use Rattle.tl_check_faces.specs.Truth.{IsNearer}
use Rattle.tl_check_faces.proofs.Crossing.{IsEastUp, IsWestUp}

-- twice a product, where the one factor is m at most and the other less than one of 2 m + 1 parts of w
module _ (m w : ℤ) (at_least : pos 0 ≤ℤ m) where
  spread : (z : ℤ) → (m +ℤ m +ℤ pos 1) *ℤ z ≡ z *ℤ m +ℤ z *ℤ m +ℤ z
  spread z = same ((num m ⊕ num m ⊕ num (pos 1)) ⊗ num z) (num z ⊗ num m ⊕ num z ⊗ num m ⊕ num z) (omega arith)

  both_turned : (u z : ℤ) → (pos 0 -ℤ z) *ℤ (pos 0 -ℤ u) ≡ u *ℤ z
  both_turned u z = same ((num (pos 0) ⊖ num z) ⊗ (num (pos 0) ⊖ num u)) (num u ⊗ num z) (omega arith)

  exchanged : (u z : ℤ) → z *ℤ u ≡ u *ℤ z
  exchanged u z = same (num z ⊗ num u) (num u ⊗ num z) (omega arith)

  half : (u z : ℤ) → (pos 0 -ℤ m) ≤ℤ u → u ≤ℤ m → ((m +ℤ m +ℤ pos 1) *ℤ z) <ℤ w → ((m +ℤ m +ℤ pos 1) *ℤ (pos 0 -ℤ z)) <ℤ w → (u *ℤ z +ℤ u *ℤ z) <ℤ w
  half u z low high up down =
      by_lt_z z (pos 0)
      (λ less.
      let p : ((pos 0 -ℤ z) *ℤ (pos 0 -ℤ u)) ≤ℤ ((pos 0 -ℤ z) *ℤ m) = mono (pos 0 -ℤ z) (pos 0 -ℤ u) m (omega (arith, ints, less)) (omega (arith, ints, low)) in
      let e = both_turned u z in let f = spread (pos 0 -ℤ z) in
      omega (arith, ints, p, e, f, less, down))
      (λ more.
      let p : (z *ℤ u) ≤ℤ (z *ℤ m) = mono z u m more high in
      let e = exchanged u z in let f = spread z in
      omega (arith, ints, p, e, f, more, up))

  first_turned : (u z : ℤ) → (pos 0 -ℤ u) *ℤ z ≡ pos 0 -ℤ u *ℤ z
  first_turned u z = same ((num (pos 0) ⊖ num u) ⊗ num z) (num (pos 0) ⊖ num u ⊗ num z) (omega arith)

  half_below : (u z : ℤ) → (pos 0 -ℤ m) ≤ℤ u → u ≤ℤ m → ((m +ℤ m +ℤ pos 1) *ℤ z) <ℤ w → ((m +ℤ m +ℤ pos 1) *ℤ (pos 0 -ℤ z)) <ℤ w → (pos 0 -ℤ w) <ℤ (u *ℤ z +ℤ u *ℤ z)
  half_below u z low high up down =
      let p = half (pos 0 -ℤ u) z (omega (arith, ints, high)) (omega (arith, ints, low)) up down in
      let e = first_turned u z in
      omega (arith, ints, p, e)

  -- less than w itself
  unit : (z : ℤ) → pos 0 <ℤ w → ((m +ℤ m +ℤ pos 1) *ℤ z) <ℤ w → z <ℤ w
  unit z above up =
      by_lt_z z w (λ k. k)
      (λ ge. absurd (let p = product_at_least z m (omega (arith, ints, above, ge)) at_least in let e = spread z in omega (arith, ints, p, e, up, ge)))

-- q is near r
module _ (r q : Rational) (m : ℤ) (at_least : pos 0 ≤ℤ m) (near : IsNearer (r.d *ℤ (m +ℤ m +ℤ pos 1)) r q) where
  abbrev dx : ℤ
  dx = step_x r q

  abbrev dy : ℤ
  dy = step_y r q

  abbrev parts : ℤ
  parts = m +ℤ m +ℤ pos 1

  joined : (z : ℤ) → (r.d *ℤ parts) *ℤ z ≡ r.d *ℤ (parts *ℤ z)
  joined z = same (num r.d ⊗ num parts ⊗ num z) (num r.d ⊗ (num parts ⊗ num z)) (omega arith)

  small : (z : ℤ) → ((r.d *ℤ parts) *ℤ z) <ℤ (r.d *ℤ q.d) → (parts *ℤ z) <ℤ q.d
  small z h = let e = joined z in let d : pos 0 <ℤ r.d = r.above_zero in cancel_lt r.d (parts *ℤ z) q.d (omega (arith, ints, d)) (omega (arith, ints, h, e))

  -- ---- latitudes

  to_north : (v : ℤ) → r.d *ℤ (q.d *ℤ v -ℤ q.y) ≡ q.d *ℤ (r.d *ℤ v -ℤ r.y) -ℤ dy
  to_north v =
      let d = num r.d in let e = num q.d in
      same (d ⊗ (e ⊗ num v ⊖ num q.y)) (e ⊗ (d ⊗ num v ⊖ num r.y) ⊖ (num q.y ⊗ d ⊖ num r.y ⊗ e)) (omega arith)

  to_south : (v : ℤ) → r.d *ℤ (q.y -ℤ q.d *ℤ v) ≡ q.d *ℤ (r.y -ℤ r.d *ℤ v) +ℤ dy
  to_south v =
      let d = num r.d in let e = num q.d in
      same (d ⊗ (num q.y ⊖ e ⊗ num v)) (e ⊗ (num r.y ⊖ d ⊗ num v) ⊕ (num q.y ⊗ d ⊖ num r.y ⊗ e)) (omega arith)

  one_of : q.d *ℤ pos 1 ≡ q.d
  one_of = same (num q.d ⊗ num (pos 1)) (num q.d) (omega arith)

  apart : (z : ℤ) → pos 0 <ℤ z → q.d ≤ℤ (q.d *ℤ z)
  apart z h =
      let d : pos 0 <ℤ q.d = q.above_zero in
      let p : (q.d *ℤ pos 1) ≤ℤ (q.d *ℤ z) = mono q.d (pos 1) z (omega (arith, ints, d)) (omega (arith, ints, h)) in
      let e = one_of in omega (arith, ints, p, e)

  pub north_stays : (v : ℤ) → r.y <ℤ (r.d *ℤ v) → q.y <ℤ (q.d *ℤ v)
  north_stays v h =
      let p = apart (r.d *ℤ v -ℤ r.y) (omega (arith, ints, h)) in
      let less = unit m q.d at_least dy q.above_zero (small dy near.north) in
      let e = to_north v in let d : pos 0 <ℤ r.d = r.above_zero in
      let k = above_of_product r.d (q.d *ℤ v -ℤ q.y) (omega (arith, ints, d)) (omega (arith, ints, p, less, e)) in
      omega (arith, ints, k)

  pub south_stays : (v : ℤ) → (r.d *ℤ v) <ℤ r.y → (q.d *ℤ v) <ℤ q.y
  south_stays v h =
      let p = apart (r.y -ℤ r.d *ℤ v) (omega (arith, ints, h)) in
      let less = unit m q.d at_least (pos 0 -ℤ dy) q.above_zero (small (pos 0 -ℤ dy) near.south) in
      let e = to_south v in let d : pos 0 <ℤ r.d = r.above_zero in
      let k = above_of_product r.d (q.y -ℤ q.d *ℤ v) (omega (arith, ints, d)) (omega (arith, ints, p, less, e)) in
      omega (arith, ints, k)

  pub not_north_stays : pos 0 ≤ℤ dy → (v : ℤ) → (r.d *ℤ v) ≤ℤ r.y → (q.d *ℤ v) ≤ℤ q.y
  not_north_stays north v h =
      let d : pos 0 <ℤ q.d = q.above_zero in
      let p = product_at_least q.d (r.y -ℤ r.d *ℤ v) (omega (arith, ints, d)) (omega (arith, ints, h)) in
      let e = to_south v in
      let k = at_least_of_product r.d (q.y -ℤ q.d *ℤ v) r.above_zero (omega (arith, ints, p, e, north)) in
      omega (arith, ints, k)

  pub not_south_stays : dy <ℤ pos 0 → (v : ℤ) → r.y ≤ℤ (r.d *ℤ v) → q.y <ℤ (q.d *ℤ v)
  not_south_stays south v h =
      let d : pos 0 <ℤ q.d = q.above_zero in
      let d' : pos 0 <ℤ r.d = r.above_zero in
      let p = product_at_least q.d (r.d *ℤ v -ℤ r.y) (omega (arith, ints, d)) (omega (arith, ints, h)) in
      let e = to_north v in
      let k = above_of_product r.d (q.d *ℤ v -ℤ q.y) (omega (arith, ints, d')) (omega (arith, ints, p, e, south)) in
      omega (arith, ints, k)

  -- ---- turns

  module _ (a b : Point) (x_low : (pos 0 -ℤ m) ≤ℤ (b.x -ℤ a.x)) (x_high : (b.x -ℤ a.x) ≤ℤ m) (y_low : (pos 0 -ℤ m) ≤ℤ (b.y -ℤ a.y)) (y_high : (b.y -ℤ a.y) ≤ℤ m) where
    abbrev ux : ℤ
    ux = b.x -ℤ a.x

    abbrev uy : ℤ
    uy = b.y -ℤ a.y

    moved : r.d *ℤ turn_at a b q ≡ q.d *ℤ turn_at a b r +ℤ (ux *ℤ dy -ℤ uy *ℤ dx)
    moved = by ux uy a.x a.y r.x r.y r.d q.x q.y q.d
      where
        by : (u v ax ay x y d X Y D : ℤ) → d *ℤ (u *ℤ (Y -ℤ D *ℤ ay) -ℤ v *ℤ (X -ℤ D *ℤ ax)) ≡ D *ℤ (u *ℤ (y -ℤ d *ℤ ay) -ℤ v *ℤ (x -ℤ d *ℤ ax)) +ℤ (u *ℤ (Y *ℤ d -ℤ y *ℤ D) -ℤ v *ℤ (X *ℤ d -ℤ x *ℤ D))
        by u v ax ay x y d X Y D =
            let p = num d in let P = num D in let U = num u in let V = num v in
            same (p ⊗ (U ⊗ (num Y ⊖ P ⊗ num ay) ⊖ V ⊗ (num X ⊖ P ⊗ num ax)))
            (P ⊗ (U ⊗ (num y ⊖ p ⊗ num ay) ⊖ V ⊗ (num x ⊖ p ⊗ num ax)) ⊕ (U ⊗ (num Y ⊗ p ⊖ num y ⊗ P) ⊖ V ⊗ (num X ⊗ p ⊖ num x ⊗ P))) (omega arith)

    x_up : (parts *ℤ dx) <ℤ q.d
    x_up = small dx near.east

    x_down : (parts *ℤ (pos 0 -ℤ dx)) <ℤ q.d
    x_down = small (pos 0 -ℤ dx) near.west

    y_up : (parts *ℤ dy) <ℤ q.d
    y_up = small dy near.north

    y_down : (parts *ℤ (pos 0 -ℤ dy)) <ℤ q.d
    y_down = small (pos 0 -ℤ dy) near.south

    pub turn_above : pos 0 <ℤ turn_at a b r → pos 0 <ℤ turn_at a b q
    turn_above h =
        let p = apart (turn_at a b r) h in
        let one = half_below m q.d at_least ux dy x_low x_high y_up y_down in
        let other = half m q.d at_least uy dx y_low y_high x_up x_down in
        let e = moved in let d : pos 0 <ℤ r.d = r.above_zero in
        above_of_product r.d (turn_at a b q) (omega (arith, ints, d)) (omega (arith, ints, p, one, other, e))

    negated : (v w : ℤ) → v *ℤ (pos 0 -ℤ w) ≡ pos 0 -ℤ v *ℤ w
    negated v w = same (num v ⊗ (num (pos 0) ⊖ num w)) (num (pos 0) ⊖ num v ⊗ num w) (omega arith)

    pub turn_below : turn_at a b r <ℤ pos 0 → turn_at a b q <ℤ pos 0
    turn_below h =
        let p = apart (pos 0 -ℤ turn_at a b r) (omega (arith, ints, h)) in
        let n = negated q.d (turn_at a b r) in
        let n' = negated r.d (turn_at a b q) in
        let one = half m q.d at_least ux dy x_low x_high y_up y_down in
        let other = half_below m q.d at_least uy dx y_low y_high x_up x_down in
        let e = moved in let d : pos 0 <ℤ r.d = r.above_zero in
        let k = above_of_product r.d (pos 0 -ℤ turn_at a b q) (omega (arith, ints, d)) (omega (arith, ints, p, n, n', one, other, e)) in
        omega (arith, ints, k)

    -- ---- what the rays pass, where the line of the two points doesn't hold r between them

    module _ (off : turn_at a b r ≡ pos 0 → (r.d *ℤ a.y) ≤ℤ r.y → r.y ≤ℤ (r.d *ℤ b.y) → a.y <ℤ b.y → ⊥) where
      rising : (r.d *ℤ a.y) <ℤ (r.d *ℤ b.y) → a.y <ℤ b.y
      rising h = let d : pos 0 <ℤ r.d = r.above_zero in cancel_lt r.d a.y b.y (omega (arith, ints, d)) h

      pub east_to : pos 0 ≤ℤ dy → IsEastUp a b r → IsEastUp a b q
      east_to north k = record { low = not_north_stays north a.y k.low; high = north_stays b.y k.high; turn = turn_above k.turn }

      pub east_from : pos 0 ≤ℤ dy → IsEastUp a b q → IsEastUp a b r
      east_from north k =
          let low : (r.d *ℤ a.y) ≤ℤ r.y = by_lt_z r.y (r.d *ℤ a.y) (λ lt. absurd (let h = north_stays a.y lt in let l = k.low in omega (arith, ints, h, l))) (λ le. le) in
          let high : r.y <ℤ (r.d *ℤ b.y) = by_lt_z r.y (r.d *ℤ b.y) (λ lt. lt) (λ le. absurd (let h = not_north_stays north b.y le in let l = k.high in omega (arith, ints, h, l))) in
          record {
            low = low;
            high = high;
            turn = ⊎_elim (λ less. absurd (let h = turn_below less in let l = k.turn in omega (arith, ints, h, l)))
                (⊎_elim (λ zero. absurd (off zero low (omega (arith, ints, high)) (rising (omega (arith, ints, low, high))))) (λ more. more)) (sign (turn_at a b r));
          }

      pub west_to : dy <ℤ pos 0 → IsWestUp a b r → IsWestUp a b q
      west_to south k = record { low = south_stays a.y k.low; high = (let h = not_south_stays south b.y k.high in omega (arith, ints, h)); turn = turn_below k.turn }

      pub west_from : dy <ℤ pos 0 → IsWestUp a b q → IsWestUp a b r
      west_from south k =
          let low : (r.d *ℤ a.y) <ℤ r.y = by_lt_z (r.d *ℤ a.y) r.y (λ lt. lt) (λ le. absurd (let h = not_south_stays south a.y le in let l = k.low in omega (arith, ints, h, l))) in
          let high : r.y ≤ℤ (r.d *ℤ b.y) = by_lt_z (r.d *ℤ b.y) r.y (λ lt. absurd (let h = south_stays b.y lt in let l = k.high in omega (arith, ints, h, l))) (λ le. le) in
          record {
            low = low;
            high = high;
            turn = ⊎_elim (λ less. less)
                (⊎_elim (λ zero. absurd (off zero (omega (arith, ints, low)) high (rising (omega (arith, ints, low, high))))) (λ more. absurd (let h = turn_above more in let l = k.turn in omega (arith, ints, h, l)))) (sign (turn_at a b r));
          }
