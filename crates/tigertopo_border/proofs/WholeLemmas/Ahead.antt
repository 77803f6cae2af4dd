-- Places on the way from one place toward another, or in a direction.
use Rattle.std.proofs.Common.{◌≡◌, ℕ, ℤ, pos, ◌+ℤ◌, ◌-ℤ◌, ◌*ℤ◌, ◌<ℤ◌, ◌≤ℤ◌, ap, ◌∙◌, arith}
use Rattle.std.proofs.lemmas.Int.{ints}
use Rattle.tl_geom.specs.declared.rational.Rational.{Rational}
use Rattle.tl_geom.specs.declared.segment.Segment.{Segment}
use Rattle.tl_geom.specs.Plane.{cross}
use Rattle.tl_geom.proofs.Polynomials.{num, ◌⊕◌, ◌⊖◌, ◌⊗◌, same}
use Rattle.tl_geom.proofs.Signs.{mono, above_of_product, times_zero}
use Rattle.tl_check_faces.specs.Facing.{IsStrictlyOn, step_x, step_y}
use Rattle.tl_check_faces.specs.Truth.{IsNearer, turn_about}
use Rattle.tl_check_faces.proofs.ToFaces.{ahead, step_east, step_north, step_of, turn_ahead, wide}

one_times : (z : ℤ) → pos 1 *ℤ z ≡ z
one_times z = same (num (pos 1) ⊗ num z) (num z) (omega arith)

times_one : (z : ℤ) → z *ℤ pos 1 ≡ z
times_one z = same (num z ⊗ num (pos 1)) (num z) (omega arith)

-- m parts of p and one of the rational point x/d, y/d; with d = 0, of the direction (x, y)
module _ (p : Rational) (x y d : ℤ) (at_least : pos 0 ≤ℤ d) where
  module _ (e m : ℤ) (some_e : pos 0 <ℤ e) (some_m : pos 0 <ℤ m) (one : pos 0 <ℤ pos 1) (b : ℕ) (great : (e *ℤ pos b) <ℤ m) where
    within : (z g : ℤ) → z ≡ pos 1 *ℤ g → g ≤ℤ pos b → (e *ℤ z) <ℤ (p.d *ℤ (m *ℤ p.d +ℤ pos 1 *ℤ d))
    within z g is le =
        let same_g = one_times g in
        let up : (e *ℤ z) ≤ℤ (e *ℤ pos b) = mono e z (pos b) (omega (arith, ints, some_e)) (omega (arith, ints, is, same_g, le)) in
        let w = wide m p.d d some_m p.above_zero at_least in omega (arith, ints, up, great, w)

    within_below : (z g : ℤ) → z ≡ pos 1 *ℤ g → (pos 0 -ℤ pos b) ≤ℤ g → (e *ℤ (pos 0 -ℤ z)) <ℤ (p.d *ℤ (m *ℤ p.d +ℤ pos 1 *ℤ d))
    within_below z g is le =
        let same_g = one_times g in let other = one_times (pos 0 -ℤ g) in
        within (pos 0 -ℤ z) (pos 0 -ℤ g) (omega (arith, ints, is, same_g, other)) (omega (arith, ints, le))

    pub is_near : (pos 0 -ℤ pos b) ≤ℤ step_east p x y d at_least → step_east p x y d at_least ≤ℤ pos b →
        (pos 0 -ℤ pos b) ≤ℤ step_north p x y d at_least → step_north p x y d at_least ≤ℤ pos b →
        IsNearer e p (ahead p x y d at_least m (pos 1) some_m one)
    is_near west east south north = record {
      west = within_below (step_x p (ahead p x y d at_least m (pos 1) some_m one)) (step_east p x y d at_least) (step_of p.x p.d x d m (pos 1)) west;
      east = within (step_x p (ahead p x y d at_least m (pos 1) some_m one)) (step_east p x y d at_least) (step_of p.x p.d x d m (pos 1)) east;
      south = within_below (step_y p (ahead p x y d at_least m (pos 1) some_m one)) (step_north p x y d at_least) (step_of p.y p.d y d m (pos 1)) south;
      north = within (step_y p (ahead p x y d at_least m (pos 1) some_m one)) (step_north p x y d at_least) (step_of p.y p.d y d m (pos 1)) north;
    }

  -- on which side of a segment through p it lies, the direction tells
  module _ (u : Segment) (on : IsStrictlyOn u p) (m : ℤ) (some_m : pos 0 <ℤ m) (one : pos 0 <ℤ pos 1) where
    side_is : p.d *ℤ turn_about u (ahead p x y d at_least m (pos 1) some_m one) ≡
        cross (u.b.x -ℤ u.a.x) (u.b.y -ℤ u.a.y) (step_east p x y d at_least) (step_north p x y d at_least)
    side_is =
        let all = turn_ahead (u.b.x -ℤ u.a.x) (u.b.y -ℤ u.a.y) u.a.x u.a.y p.x p.y p.d x y d m in
        let none : (m *ℤ p.d +ℤ pos 1 *ℤ d) *ℤ turn_about u p ≡ pos 0 =
        ap (λ z. (m *ℤ p.d +ℤ pos 1 *ℤ d) *ℤ z) on.on.straight ∙ times_zero (m *ℤ p.d +ℤ pos 1 *ℤ d) in
        omega (arith, ints, all, none)

    pub left_of : pos 0 <ℤ cross (u.b.x -ℤ u.a.x) (u.b.y -ℤ u.a.y) (step_east p x y d at_least) (step_north p x y d at_least) →
        pos 0 <ℤ turn_about u (ahead p x y d at_least m (pos 1) some_m one)
    left_of h =
        let is = side_is in let a : pos 0 <ℤ p.d = p.above_zero in
        above_of_product p.d (turn_about u (ahead p x y d at_least m (pos 1) some_m one)) (omega (arith, ints, a)) (omega (arith, ints, is, h))
