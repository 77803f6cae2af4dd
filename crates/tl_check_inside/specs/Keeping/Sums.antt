-- How often the polygons of a landmark are near and far together, as it is summed up.
use Rattle.std.specs.Prelude.{ℕ, Bool, not, ◌==◌, Option, None, Some, List, [], sum_by, slice_get, slice_index}
use Rattle.tl_map_county.specs.TheMap.{MapLandmark}

-- the sum of the counts of these polygons
abbrev pub sum_at : (counts polygons : List ℕ) → ℕ
sum_at counts polygons = sum_by (slice_index counts) polygons

-- the polygons of a landmark that is found
abbrev pub polygons_of : Option MapLandmark → List ℕ
polygons_of None = []
polygons_of (Some landmark) = landmark.polygons

-- the polygons of landmark l are near and far not equally often
abbrev pub sums_differ : List MapLandmark → (near far : List ℕ) → ℕ → Bool
sums_differ landmarks near far l =
    not (sum_at near (polygons_of (slice_get landmarks l)) == sum_at far (polygons_of (slice_get landmarks l)))
