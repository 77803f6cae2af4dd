-- The part of a map whose chains are planar among themselves.
use Rattle.std.specs.Prelude.{◌≡◌, length}
use Rattle.tl_map_county.specs.TheMap.{TheMap}
use Rattle.tl_map_county.specs.Remaining.{map_without}
use Rattle.tl_check_planar.specs.Planar.{IsPlanar}
use Rattle.tl_check_inside.specs.Suspects.{AreSuspects}
use Rattle.tl_check_sweep.specs.declared.remaining.PlanarPart.{PlanarPart}

-- each chain of the map has a mark, and the chains that aren't marked are planar; in the map of these the points of all polygons but the
-- suspects lie where they have to
pub record IsPlanarPart (m : TheMap) (part : PlanarPart) : Type 0 where
  pub long : length part.marks.items ≡ length m.chains
  pub is : part.map ≡ map_without part.marks.items m
  pub planar : IsPlanar part.map.chains
  pub suspects : AreSuspects part.map part.suspects.items
