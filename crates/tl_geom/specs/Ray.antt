-- What the ray of a place, which runs to the east, crosses. Of a point it is the ray of the whole place.
use Rattle.std.specs.Prelude.{◌≡◌, ◌⊎◌, ◌*ℤ◌, ◌<ℤ◌, ◌≤ℤ◌}
use Rattle.tl_geom.specs.declared.point.Point.{Point}
use Rattle.tl_geom.specs.declared.rational.Rational.{Rational}
use Rattle.tl_geom.specs.declared.segment.Segment.{Segment}
use Rattle.tl_geom.specs.Plane.{IsOn}

-- one of the points is north of q, and the other is not
abbrev pub IsParted : Rational → (a b : Point) → Type 0
IsParted q a b =
    (((q.d *ℤ a.y) ≤ℤ q.y) × (q.y <ℤ (q.d *ℤ b.y))) ⊎ (((q.d *ℤ b.y) ≤ℤ q.y) × (q.y <ℤ (q.d *ℤ a.y)))

-- r is strictly east of q, at its latitude
pub record IsEast (q r : Rational) : Type 0 where
  pub level : r.y *ℤ q.d ≡ q.y *ℤ r.d
  pub past : (q.x *ℤ r.d) <ℤ (r.x *ℤ q.d)

-- the segment crosses the ray of q: the latitude of q parts its ends, and a place of it is strictly east of q
pub record Crosses (s : Segment) (q : Rational) : Type 0 where
  pub parted : IsParted q s.a s.b
  pub place : Rational
  pub on_segment : IsOn s place
  pub to_the_east : IsEast q place
