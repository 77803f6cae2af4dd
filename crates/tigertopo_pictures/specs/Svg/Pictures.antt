-- How a map is drawn, and what is marked.
use Rattle.std.specs.Prelude.{ℕ, ◌+◌, ◌-◌, ◌*◌, ◌/◌, nat_le, Bool, false, ◌&&◌, List, length, sum_by, count_by, ℤ, pos, ◌+ℤ◌, ◌-ℤ◌, unsigned_abs, Option, Some, None}
use Rattle.std.specs.Int.{int_rem_euclid}
use Rattle.std.specs.Option.{option_map_or}
use Rattle.tl_geom.specs.declared.point.Point.{Point}
use Rattle.tl_geom.specs.declared.rational.Rational.{Rational}
use Rattle.tl_map_county.specs.declared.polygons.Polygon.{Polygon}
use Rattle.tl_map_county.specs.TheMap.{TheMap, MapChain}
use Rattle.tigertopo_pictures.specs.declared.svg.frame.Frame.{Frame}
use Rattle.tigertopo_pictures.specs.declared.svg.picture.Picture.{Picture}
use Rattle.tigertopo_pictures.specs.declared.svg.places.Mark.{Mark}
use Rattle.tigertopo_pictures.specs.Svg.Frames.{east, south, is_held, is_inside, corner_of}
use Rattle.tigertopo_pictures.specs.Svg.Strokes.{drawings, Drawing, is_shown}

-- how many strokes are drawn of chains
abbrev pub stroke_count : Frame → List MapChain → ℕ
stroke_count f chains = sum_by (λ (d : Drawing). length d.strokes) (drawings f chains)

-- how many polygons' points lie in the picture
abbrev pub point_count : Frame → List Polygon → ℕ
point_count f polygons = count_by (λ (p : Polygon). is_inside f p.point) polygons

-- how many strokes, and how many polygons' points, a picture has at most in which nodes and polygons' points are marked
abbrev pub most_marked : ℕ
most_marked = 20000

-- are they few enough
abbrev pub is_marked : Frame → TheMap → Bool
is_marked f m = nat_le (stroke_count f m.chains) most_marked && nat_le (point_count f m.polygons) most_marked

-- the picture of a map by a frame
abbrev pub picture_of : Frame → TheMap → Picture
picture_of f m = record { frame = f; is_marked = is_marked f m }

-- what is drawn of the map's chains
abbrev pub drawn : Picture → TheMap → List Drawing
drawn picture m = drawings picture.frame m.chains

-- how many chains are shown
abbrev pub chain_count : Picture → TheMap → ℕ
chain_count picture m = count_by is_shown (drawn picture m)

-- how far a number is above the last multiple of a divisor: what is left of a place's numerator beyond whole millionths of a degree
abbrev pub part_of : ℤ → ℤ → ℕ
part_of z d = unsigned_abs (int_rem_euclid z d)

-- how long so much of a millionth of a degree is, where half a millionth is so many parts of a tenth of a pixel: rounded down, and up
abbrev pub beyond : (part d weight : ℕ) → ℕ
beyond part d weight = part * (2 * weight) / d

abbrev pub beyond_up : (part d weight : ℕ) → ℕ
beyond_up part d weight = (part * (2 * weight) + (d - 1)) / d

-- a place in a picture, beyond the whole millionths of a degree to its south-west, rounded to such parts to the west and to the north
abbrev pub mark_at : Frame → Rational → Point → Mark
mark_at f r corner =
    record {
      corner = corner;
      at = record {
        x = east f corner.x +ℤ pos (beyond (part_of r.x r.d) (unsigned_abs r.d) (4900 * f.cosine));
        y = south f corner.y -ℤ pos (beyond_up (part_of r.y r.d) (unsigned_abs r.d) 49000000);
      };
    }

-- the same where there is such a corner
abbrev pub mark_beyond : Frame → Rational → Option Point → Option Mark
mark_beyond f r None = None
mark_beyond f r (Some corner) = Some (mark_at f r corner)

-- a place in a picture
abbrev pub mark_of : Frame → Rational → Option Mark
mark_of f r = mark_beyond f r (corner_of r)

-- the same of a place, if there is one
abbrev pub mark_if : Frame → Option Rational → Option Mark
mark_if f None = None
mark_if f (Some r) = mark_of f r

-- is it in the picture
abbrev pub is_mark_held : Frame → Mark → Bool
is_mark_held f mark = is_held f mark.at

-- does a place lie in the picture, if there is one
abbrev pub is_place_inside : Frame → Option Rational → Bool
is_place_inside f place = option_map_or (is_mark_held f) (mark_if f place) false

-- how many faults lie in the picture, of which these are the places
abbrev pub fault_count : Frame → List (Option Rational) → ℕ
fault_count f places = count_by (is_place_inside f) places
