-- Polygons that sides at odds name.
use Rattle.std.specs.Prelude.{◌≡◌, ◌⊎◌, ℕ, Some, List, All, Contains}
use Rattle.std.specs.List.Sorted.{IsStrictlyIncreasing}
use Rattle.tl_map_county.specs.declared.sides.Side.TheVariants.{Polygon}
use Rattle.tl_map_county.specs.TheMap.{MapChain}
use Rattle.tl_map_county.specs.Darts.{dart_left}
use Rattle.tl_check_sides.specs.Sides.{dart_right}
use Rattle.tl_check_sides.specs.Listing.Disagreements.{HaveSidesAtOdds}

-- the polygon is touched: it's one of two that sides at odds name, on the left of a dart and on the right of the next one
pub record IsTouched (chains : List MapChain) (p : ℕ) : Type 0 where
  pub first : ℕ
  pub next : ℕ
  pub odds : HaveSidesAtOdds chains first next
  pub names : (dart_left chains first ≡ Some (Polygon p)) ⊎ (dart_right chains next ≡ Some (Polygon p))

-- these are all that are touched, by rising number
pub record AreAllTouched (chains : List MapChain) (polygons : List ℕ) : Type 0 where
  pub rising : IsStrictlyIncreasing polygons
  pub each : All (IsTouched chains) polygons
  pub complete : (p : ℕ) → IsTouched chains p → Contains polygons p
