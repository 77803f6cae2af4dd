-- Polygons whose points were found to be placed.
use Rattle.std.specs.Prelude.{◌≡◌, ℕ, Bool, false, true, Some, List, length, slice_get, slice_index_or}
use Rattle.tl_map_county.specs.declared.polygons.Polygon.{Polygon}
use Rattle.tl_map_county.specs.TheMap.{TheMap}
use Rattle.tl_check_inside.specs.Placed.{IsPlacedIn}

-- the point of polygon p lies where it has to
abbrev pub IsPlacedPolygon : TheMap → ℕ → Type 0
IsPlacedPolygon m p = (polygon : Polygon) → slice_get m.polygons p ≡ Some polygon → IsPlacedIn m polygon.point p

-- a mark for each polygon: the points of those that are marked lie where they have to
pub record AreMarks (m : TheMap) (marks : List Bool) : Type 0 where
  pub long : length marks ≡ length m.polygons
  pub placed : (p : ℕ) → slice_index_or marks p false ≡ true → IsPlacedPolygon m p

-- the points of polygons that are marked lie where they have to
abbrev pub AreTrueMarks : TheMap → List Bool → Type 0
AreTrueMarks m marks = (p : ℕ) → slice_index_or marks p false ≡ true → IsPlacedPolygon m p
