-- Which part of the plane a picture shows, and where points lie in it.
--
-- What is shown is measured in ten-thousandths of a millionth of a degree of latitude. Its longer side is 980 pixels long,
-- and about it there is a margin of ten pixels.
use Rattle.std.specs.Prelude.{ℕ, ◌+◌, ◌-◌, ◌*◌, ◌/◌, ◌^◌, max, ℤ, pos, negsuc, ◌+ℤ◌, ◌-ℤ◌, ◌*ℤ◌, unsigned_abs, int_le, int_lt, nat_lt, Bool, not, ◌&&◌, ◌||◌, if◌then◌else◌, List, [], ◌∷◌, Option, Some, None}
use Rattle.std.specs.Int.{int_div_euclid, int_min, int_max}
use Rattle.std.specs.Option.{option_map_or}
use Rattle.tl_geom.specs.declared.point.Point.{Point}
use Rattle.tl_geom.specs.declared.rational.Rational.{Rational}
use Rattle.tl_geom.specs.declared.rect.Rect.{Rect}
use Rattle.tl_map_county.specs.TheMap.{MapChain}
use Rattle.tigertopo_pictures.specs.declared.svg.frame.Frame.{Frame}
use Rattle.tigertopo_pictures.specs.declared.svg.frame.Position.{Position}
use Rattle.tigertopo_pictures.specs.declared.svg.frame.Spot.{Spot}

-- how long a degree of longitude is beside one of latitude, in ten-thousandths, at the latitude that is half of so many
-- millionths of a degree: the cosine by Bhaskara's rule, (180² - 4φ²) / (180² + φ²) at φ degrees, rounded to the nearest. It
-- is right at 0, 60 and 90 degrees, off by less than 17 ten-thousandths anywhere between them, and never taken below one
abbrev pub cosine : ℕ → ℕ
cosine twice = max ((20000 * (360000000 ^ 2 - 4 * (twice * twice)) + (360000000 ^ 2 + twice * twice)) / (2 * (360000000 ^ 2 + twice * twice))) 1

-- how wide and how high that is which is shown
abbrev pub breadth : Frame → ℕ
breadth f = f.wide * f.cosine

abbrev pub height : Frame → ℕ
height f = f.high * 10000

-- the longer side, at least a millionth of a degree
abbrev pub side : Frame → ℕ
side f = max (max (breadth f) (height f)) 10000

-- twice how far it is from one coordinate to another, and so far more, by a weight
abbrev pub way : (from to : ℤ) → (shift weight : ℕ) → ℤ
way from to shift weight = (pos 2 *ℤ (to -ℤ from) +ℤ pos shift) *ℤ pos weight

-- how far a longitude lies to the east of what is shown, and a latitude to the south, in parts of which `side` make a tenth of a pixel
abbrev pub east : Frame → ℤ → ℤ
east f x = way f.origin.x x f.shift (4900 * f.cosine)

abbrev pub south : Frame → ℤ → ℤ
south f y = way y f.origin.y f.shift 49000000

-- where a point lies, in such parts
abbrev pub position : Frame → Point → Position
position f p = record { x = east f p.x; y = south f p.y }

-- the same in whole tenths of a pixel
abbrev pub spot_at : Frame → Position → Spot
spot_at f at = record { x = int_div_euclid at.x (pos (side f)); y = int_div_euclid at.y (pos (side f)) }

abbrev pub spot_of : Frame → Point → Spot
spot_of f p = spot_at f (position f p)

-- how far the picture reaches to the east and to the south without its margin, in such parts: to the east 580 pixels at least, so
-- that there is room for what is written above it
abbrev pub reach_east : Frame → ℕ
reach_east f = max (9800 * breadth f) (5800 * side f)

abbrev pub reach_south : Frame → ℕ
reach_south f = 9800 * height f

-- the corners of the picture, margin included: the north-western and the south-eastern
abbrev pub first_corner : Frame → Position
first_corner f = record { x = pos 0 -ℤ pos (100 * side f); y = pos 0 -ℤ pos (100 * side f) }

abbrev pub last_corner : Frame → Position
last_corner f = record { x = pos (reach_east f + 100 * side f); y = pos (reach_south f + 100 * side f) }

-- does a part of what lies from one number to another, in either order, lie from the first to the last
abbrev pub is_across : (first last u v : ℤ) → Bool
is_across first last u v = int_le (int_min u v) last && int_le first (int_max u v)

-- do the rectangle about two positions and the picture meet
abbrev pub are_across : Frame → Position → Position → Bool
are_across f a b = is_across (first_corner f).x (last_corner f).x a.x b.x && is_across (first_corner f).y (last_corner f).y a.y b.y

-- does a position lie in the picture, margin and borders included
abbrev pub is_held : Frame → Position → Bool
is_held f at = are_across f at at

abbrev pub is_inside : Frame → Point → Bool
is_inside f p = is_held f (position f p)

-- do a rectangle and the picture meet
abbrev pub meets : Frame → Rect → Bool
meets f r = are_across f (position f (record { x = r.xmin; y = r.ymin })) (position f (record { x = r.xmax; y = r.ymax }))

-- on which side of the line through two points a position lies: on it where this is 0
abbrev pub lean : Frame → Point → Point → (x y : ℤ) → ℤ
lean f p q x y =
    ((q.x -ℤ p.x) *ℤ pos f.cosine) *ℤ (y -ℤ (position f p).y) -ℤ ((p.y -ℤ q.y) *ℤ pos 10000) *ℤ (x -ℤ (position f p).x)

-- are four numbers above 0, or below it
abbrev pub are_above : (a b c d : ℤ) → Bool
are_above a b c d = int_lt (pos 0) a && int_lt (pos 0) b && int_lt (pos 0) c && int_lt (pos 0) d

abbrev pub are_below : (a b c d : ℤ) → Bool
are_below a b c d = int_lt a (pos 0) && int_lt b (pos 0) && int_lt c (pos 0) && int_lt d (pos 0)

abbrev pub are_one_sided : (a b c d : ℤ) → Bool
are_one_sided a b c d = are_above a b c d || are_below a b c d

-- do all corners of the picture lie on one side of the line through two points
abbrev pub is_beside : Frame → Point → Point → Bool
is_beside f p q =
    let first = first_corner f in
    let last = last_corner f in
    are_one_sided (lean f p q first.x first.y) (lean f p q first.x last.y) (lean f p q last.x first.y) (lean f p q last.x last.y)

-- is a straight line from point to point seen: it has a point in the picture
abbrev pub is_seen : Frame → Point → Point → Bool
is_seen f p q = is_inside f p || is_inside f q || (are_across f (position f p) (position f q) && not (is_beside f p q))

-- are so many millionths of a degree, by how long one is, shorter than a third of a pixel: the longer side has 2,940 thirds
abbrev pub is_tiny : Frame → (gap weight : ℕ) → Bool
is_tiny f gap weight = nat_lt (gap * weight * 2940) (side f)

-- is the second point nearer to the first than a third of a pixel, along both axes
abbrev pub is_near : Frame → Point → Point → Bool
is_near f p q = is_tiny f (unsigned_abs (q.x -ℤ p.x)) f.cosine && is_tiny f (unsigned_abs (q.y -ℤ p.y)) 10000

-- is a rectangle smaller than a third of a pixel, along both axes
abbrev pub is_small : Frame → Rect → Bool
is_small f r = is_tiny f (unsigned_abs (r.xmax -ℤ r.xmin)) f.cosine && is_tiny f (unsigned_abs (r.ymax -ℤ r.ymin)) 10000

-- are so many millionths of a degree, by how long one is, shorter than four pixels: the longer side has 245 times four
abbrev pub is_short : Frame → (gap weight : ℕ) → Bool
is_short f gap weight = nat_lt (gap * weight * 245) (side f)

-- is a rectangle smaller than four pixels, along both axes
abbrev pub is_speck : Frame → Rect → Bool
is_speck f r = is_short f (unsigned_abs (r.xmax -ℤ r.xmin)) f.cosine && is_short f (unsigned_abs (r.ymax -ℤ r.ymin)) 10000

-- the rectangle, so widened that it holds the point
abbrev pub widened : Rect → Point → Rect
widened r p =
    record {
      xmin = int_min r.xmin p.x;
      ymin = int_min r.ymin p.y;
      xmax = int_max r.xmax p.x;
      ymax = int_max r.ymax p.y;
    }

-- the same of several points, one after the other
abbrev pub around_points : Rect → List Point → Rect
around_points r [] = r
around_points r (p ∷ rest) = around_points (widened r p) rest

-- the same of the points of chains
abbrev pub around_chains : Rect → List MapChain → Rect
around_chains r [] = r
around_chains r (chain ∷ rest) = around_chains (around_points r chain.points) rest

-- a whole number as a coordinate, where it is one
abbrev pub coordinate : ℤ → Option ℤ
coordinate z = if int_le (negsuc 2147483647) z && int_le z (pos 2147483647) then Some z else None

-- both coordinates of a point, where both are there
abbrev pub point_at : Option ℤ → Option ℤ → Option Point
point_at None y = None
point_at (Some x) None = None
point_at (Some x) (Some y) = Some (record { x = x; y = y })

-- the point of a rational point, each coordinate rounded down
abbrev pub floor_of : Rational → Option Point
floor_of r = point_at (coordinate (int_div_euclid r.x r.d)) (coordinate (int_div_euclid r.y r.d))

-- the whole millionths of a degree to the south-west of a place that can be marked: one whose denominator is below 2^96, as that of each
-- crossing of two segments is
abbrev pub corner_of : Rational → Option Point
corner_of r = if nat_lt (unsigned_abs r.d) (2 ^ 96) then floor_of r else None

-- the same of a place, if there is one
abbrev pub corner_if : Option Rational → Option Point
corner_if None = None
corner_if (Some r) = corner_of r

-- the rectangle, so widened that it holds the corner of a place, if there is one
abbrev pub around_place : Rect → Option Rational → Rect
around_place r place = option_map_or (widened r) (corner_if place) r

-- the same of several places, one after the other
abbrev pub around_places : Rect → List (Option Rational) → Rect
around_places r [] = r
around_places r (place ∷ rest) = around_places (around_place r place) rest

-- the frame about a rectangle, which shows it at its middle latitude
abbrev pub frame_about : Rect → Frame
frame_about r =
    record {
      origin = record { x = r.xmin; y = r.ymax };
      shift = 0;
      wide = unsigned_abs (r.xmax -ℤ r.xmin);
      high = unsigned_abs (r.ymax -ℤ r.ymin);
      cosine = cosine (unsigned_abs (r.ymin +ℤ r.ymax));
    }

-- a rectangle that holds no point, and widens none
abbrev pub no_points : Rect
no_points = record { xmin = pos 2147483647; ymin = pos 2147483647; xmax = negsuc 2147483647; ymax = negsuc 2147483647 }

-- the frame of a whole map: it is fitted to all points of the chains and to the places of the faults that are shown
abbrev pub fitted : List MapChain → List (Option Rational) → Frame
fitted chains places = frame_about (around_places (around_chains no_points chains) places)

-- the frame about a point, so many millionths of a degree wide and high
abbrev pub frame_at : Point → ℕ → Frame
frame_at center width =
    record { origin = center; shift = width; wide = width; high = width; cosine = cosine (unsigned_abs (pos 2 *ℤ center.y)) }
