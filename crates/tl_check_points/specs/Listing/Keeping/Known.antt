-- Points whose counts are known.
use Rattle.std.specs.Prelude.{◌≡◌, ℕ, Some, List, slice_get}
use Rattle.tl_map_county.specs.declared.polygons.Polygon.{Polygon}
use Rattle.tl_map_county.specs.TheMap.{TheMap}
use Rattle.tl_check_inside.specs.declared.flanks.Flanks.{Flanks}
use Rattle.tl_check_inside.specs.Places.{IsOffChains}
use Rattle.tl_check_inside.specs.Keeping.Tallies.{TellCounts}

-- the point of polygon p is on no chain, and these flanks tell the counts there
pub record TellAt (m : TheMap) (p : ℕ) (flanks : List Flanks) : Type 0 where
  pub off : (polygon : Polygon) → slice_get m.polygons p ≡ Some polygon → IsOffChains m.chains polygon.point
  pub tell : (polygon : Polygon) → slice_get m.polygons p ≡ Some polygon → TellCounts m.chains polygon.point flanks
