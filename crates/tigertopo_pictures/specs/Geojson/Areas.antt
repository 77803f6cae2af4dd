-- The area of a polygon, twice.
use Rattle.std.specs.Prelude.{◌≡◌, ◌<◌, ◌^◌, slice_index_or, ℕ, zero, suc, ◌+◌, ◌-◌, ◌*◌, ◌/◌, ◌%◌, ◌==◌, if◌then◌else◌, List, [], ◌++◌, length, slice_get, Option, Some, None, ℤ, pos, ◌+ℤ◌, unsigned_abs, int_lt, Bool, not, codes, decimal}
use Rattle.tl_geom.specs.declared.point.Point.{Point}
use Rattle.tl_geom.specs.Plane.{cross}
use Rattle.tl_map_county.specs.declared.sides.Side.{Side}
use Rattle.tl_map_county.specs.TheMap.{TheMap, MapChain}
use Rattle.tl_map_county.specs.Darts.{dart_left}
use Rattle.tigertopo_pictures.specs.Geojson.Positions.{sign_text}
use Rattle.tigertopo_pictures.specs.Groups.{is_group}
use Rattle.tigertopo_pictures.specs.Walks.{dart_points, polygon_on}

-- the sum of the numbers that f gives below n
abbrev pub sum_below : (ℕ → ℤ) → ℕ → ℤ
sum_below f zero = pos 0
sum_below f (suc n) = sum_below f n +ℤ f n

-- the cross product of two positions: twice the area of their triangle with the point 0,0, above 0 where it lies on the left
abbrev pub cross_of : Option Point → Option Point → ℤ
cross_of None q = pos 0
cross_of (Some p) None = pos 0
cross_of (Some p) (Some q) = cross p.x p.y q.x q.y

-- that of a step of points, from number k to the next one
abbrev pub step_cross_at : List Point → ℕ → ℤ
step_cross_at points k = cross_of (slice_get points k) (slice_get points (k + 1))

-- the sum over the steps of a dart
abbrev pub dart_sum : List MapChain → ℕ → ℤ
dart_sum chains d = sum_below (step_cross_at (dart_points chains d)) (length (dart_points chains d) - 1)

-- what is added to the area of polygon p where this lies on the left
abbrev pub share : ℕ → Option Side → ℤ → ℤ
share p side sum = if is_group p (polygon_on side) then sum else pos 0

-- the sum over the steps of those darts below n that have polygon p on their left
abbrev pub area_below : List MapChain → (p n : ℕ) → ℤ
area_below chains p = sum_below (λ d. share p (dart_left chains d) (dart_sum chains d))

-- twice the area of polygon p: the sum over the steps of all darts that have it on their left
abbrev pub doubled_area : List MapChain → ℕ → ℤ
doubled_area chains p = area_below chains p (2 * length chains)

-- these are the doubled areas of a map's polygons, each of less than 127 bits
pub record AreAreas (m : TheMap) (areas : List ℤ) : Type 0 where
  pub long : length areas ≡ length m.polygons
  pub each : (p : ℕ) → p < length m.polygons → slice_index_or areas p (pos 0) ≡ doubled_area m.chains p
  pub small : (p : ℕ) → p < length m.polygons → unsigned_abs (doubled_area m.chains p) < 2 ^ 127

-- what stands behind the half of an odd number
abbrev pub half_part : Bool → List ℕ
half_part is_odd = if is_odd then codes ".5" else []

-- half a number, exactly
abbrev pub half_text : ℤ → List ℕ
half_text z = sign_text (int_lt z (pos 0)) ++ decimal (unsigned_abs z / 2) ++ half_part (not (unsigned_abs z % 2 == 0))
