-- Points, segments and rational points of the plane. Numbers here are whole numbers without bounds.
use Rattle.std.specs.Prelude.{◌≡◌, ◌⊎◌, ℤ, pos, ◌+ℤ◌, ◌*ℤ◌, ◌-ℤ◌, ◌≤ℤ◌}
use Rattle.std.specs.Int.Signed.{lt_z_yes}
use Rattle.tl_geom.specs.declared.point.Point.{Point}
use Rattle.tl_geom.specs.declared.rational.Rational.{Rational}
use Rattle.tl_geom.specs.declared.segment.Segment.{Segment}

-- the cross product of two steps: above 0 where the second goes to the left of the first
abbrev pub cross : (ux uy vx vy : ℤ) → ℤ
cross ux uy vx vy = ux *ℤ vy -ℤ uy *ℤ vx

-- the cross product of the step from a to b and the step from p to q
abbrev pub step_cross : (a b p q : Point) → ℤ
step_cross a b p q = cross (b.x -ℤ a.x) (b.y -ℤ a.y) (q.x -ℤ p.x) (q.y -ℤ p.y)

-- the cross product of the steps from p to q and to r
abbrev pub turn_of : (p q r : Point) → ℤ
turn_of p q r = step_cross p q p r

-- the two ends of a segment
abbrev pub end_a : Segment → Point
end_a s = s.a

abbrev pub end_b : Segment → Point
end_b s = s.b

-- a point as a rational point
abbrev pub whole : Point → Rational
whole p = record { x = p.x; y = p.y; d = pos 1; above_zero = lt_z_yes tt }

-- two rational points are one place
pub record IsSame (r q : Rational) : Type 0 where
  pub x : r.x *ℤ q.d ≡ q.x *ℤ r.d
  pub y : r.y *ℤ q.d ≡ q.y *ℤ r.d

-- v lies from p to q or from q to p, both included
abbrev pub IsBetween : (p q v : ℤ) → Type 0
IsBetween p q v = ((p ≤ℤ v) × (v ≤ℤ q)) ⊎ ((q ≤ℤ v) × (v ≤ℤ p))

-- the rational point lies on the segment, ends included
pub record IsOn (s : Segment) (r : Rational) : Type 0 where
  pub straight : cross (s.b.x -ℤ s.a.x) (s.b.y -ℤ s.a.y) (r.x -ℤ r.d *ℤ s.a.x) (r.y -ℤ r.d *ℤ s.a.y) ≡ pos 0
  pub x_between : IsBetween (r.d *ℤ s.a.x) (r.d *ℤ s.b.x) r.x
  pub y_between : IsBetween (r.d *ℤ s.a.y) (r.d *ℤ s.b.y) r.y

-- the coordinates of the point that is n of d parts along a segment, over d
abbrev pub place_x : Segment → (d n : ℤ) → ℤ
place_x s d n = d *ℤ s.a.x +ℤ n *ℤ (s.b.x -ℤ s.a.x)

abbrev pub place_y : Segment → (d n : ℤ) → ℤ
place_y s d n = d *ℤ s.a.y +ℤ n *ℤ (s.b.y -ℤ s.a.y)
