-- Polygons whose points may lie where they don't have to.
use Rattle.std.specs.Prelude.{◌≡◌, ◌⊎◌, ℕ, ◌<◌, Some, List, length, slice_get, All, Contains}
use Rattle.tl_map_county.specs.declared.polygons.Polygon.{Polygon}
use Rattle.tl_map_county.specs.TheMap.{TheMap}
use Rattle.tl_check_inside.specs.Placed.{IsPlacedIn}

-- these are polygons of the map, and the point of each other one lies where it has to
pub record AreSuspects (m : TheMap) (suspects : List ℕ) : Type 0 where
  pub known : All (λ p. p < length m.polygons) suspects
  pub others : (p : ℕ) (polygon : Polygon) → slice_get m.polygons p ≡ Some polygon → Contains suspects p ⊎ IsPlacedIn m polygon.point p
