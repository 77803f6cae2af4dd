use Rattle.std.proofs.Common.{All, length, subst}
use Rattle.tl_map_county.specs.TheMap.{TheMap}
use Rattle.tl_map_county.specs.Sides.{HasSidesAmong}
use Rattle.tl_map_county.proofs.MapLemmas.{sided_among}
use Rattle.tl_map_county.proofs.map.Map.names_its_polygons.Goals as goal

pub returns : goal.returns
returns c =
    subst (λ (m : TheMap). All (HasSidesAmong (length m.polygons)) m.chains) c.self.view_is
    (sided_among (length c.self.inside.polygons.items) c.self.inside.chains.chains c.self.inside.sides c.self.invariant.0 c.self.invariant.10)
