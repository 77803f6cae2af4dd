-- The heights of points, by which a sweep passes over them from the lowest to the highest, and the ends of segments by them.
use Rattle.std.specs.Prelude.{ℤ, pos, ◌-ℤ◌, ◌*ℤ◌, ◌<ℤ◌, ◌≤ℤ◌, int_lt, if◌then◌else◌}
use Rattle.tl_geom.specs.declared.point.Point.{Point}
use Rattle.tl_geom.specs.declared.rational.Rational.{Rational}
use Rattle.tl_geom.specs.declared.segment.Segment.{Segment}
use Rattle.tl_geom.specs.Plane.{cross, turn_of}

-- `K` is a number above the difference of the longitudes of any two points at hand. So a point is higher than another where it
-- is further north, or of one latitude and further west; different points have different heights, and no segment is level.

-- the number that is above any difference of two i32
abbrev pub widest : ℤ
widest = pos 4294967296

-- the height of a point
abbrev pub height : ℤ → Point → ℤ
height K p = K *ℤ p.y -ℤ p.x

-- the height of a rational point, over its d
abbrev pub height_of : ℤ → Rational → ℤ
height_of K r = K *ℤ r.y -ℤ r.x

-- K is above the difference of the longitudes of two points
pub record AreNear (K : ℤ) (p q : Point) : Type 0 where
  pub west : (p.x -ℤ q.x) <ℤ K
  pub east : (q.x -ℤ p.x) <ℤ K

-- the lower end of a segment, and the higher one
abbrev pub low_end : ℤ → Segment → Point
low_end K s = if int_lt (height K s.a) (height K s.b) then s.a else s.b

abbrev pub high_end : ℤ → Segment → Point
high_end K s = if int_lt (height K s.a) (height K s.b) then s.b else s.a

-- the turn from a segment's low end by its high end to a point: above 0 where the point lies west of the segment or of its
-- line, and below 0 where it lies east
abbrev pub turn_to : ℤ → Segment → Point → ℤ
turn_to K s p = turn_of (low_end K s) (high_end K s) p

-- the turn by two points to a rational point, over its d
abbrev pub turn_at : (a b : Point) → Rational → ℤ
turn_at a b r = cross (b.x -ℤ a.x) (b.y -ℤ a.y) (r.x -ℤ r.d *ℤ a.x) (r.y -ℤ r.d *ℤ a.y)

-- the segment has a point at the height of the rational point
pub record Spans (K : ℤ) (s : Segment) (r : Rational) : Type 0 where
  pub from : (r.d *ℤ height K (low_end K s)) ≤ℤ height_of K r
  pub to : height_of K r ≤ℤ (r.d *ℤ height K (high_end K s))

-- the rational point isn't east of the segment
abbrev pub IsNotEast : ℤ → Segment → Rational → Type 0
IsNotEast K s r = pos 0 ≤ℤ turn_at (low_end K s) (high_end K s) r
