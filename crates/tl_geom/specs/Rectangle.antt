-- Rectangles with sides along the axes, as sets of points.
use Rattle.std.specs.Prelude.{◌≤ℤ◌, pos}
use Rattle.std.specs.Int.{int_max, int_min}
use Rattle.tl_geom.specs.declared.point.Point.{Point}
use Rattle.tl_geom.specs.declared.rect.Rect.{Rect}
use Rattle.tl_geom.specs.declared.segment.Segment.{Segment}

-- the point is in the rectangle, borders included
pub record Holds (r : Rect) (p : Point) : Type 0 where
  pub west : r.xmin ≤ℤ p.x
  pub east : p.x ≤ℤ r.xmax
  pub south : r.ymin ≤ℤ p.y
  pub north : p.y ≤ℤ r.ymax

-- some point is in both rectangles
pub record AreMeeting (r q : Rect) : Type 0 where
  pub point : Point
  pub in_first : Holds r point
  pub in_second : Holds q point

-- no point is in the rectangle
abbrev pub IsEmpty : Rect → Type 0
IsEmpty r = (p : Point) → ¬ Holds r p

-- the rectangle holds each point that the other holds
abbrev pub Covers : (r q : Rect) → Type 0
Covers r q = (p : Point) → Holds q p → Holds r p

-- the rectangle of a segment: from the least to the greatest coordinates of its ends
abbrev pub rect_of : Segment → Rect
rect_of s =
    record {
      xmin = int_min s.a.x s.b.x;
      ymin = int_min s.a.y s.b.y;
      xmax = int_max s.a.x s.b.x;
      ymax = int_max s.a.y s.b.y;
    }

-- the rectangle of one point
abbrev pub spot_rect : Point → Rect
spot_rect q = record { xmin = q.x; ymin = q.y; xmax = q.x; ymax = q.y }

-- the rectangle of the ray that runs from q to the east: as far as an i32 goes, at the height of q
abbrev pub ray_rect : Point → Rect
ray_rect q = record { xmin = q.x; ymin = q.y; xmax = pos 2147483647; ymax = q.y }

-- a rectangle that holds no point
abbrev pub nothing : Rect
nothing = record { xmin = pos 1; ymin = pos 1; xmax = pos 0; ymax = pos 0 }
