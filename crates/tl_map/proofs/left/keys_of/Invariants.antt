use Rattle.std.proofs.Common.{◌≡◌, take, map}
use Rattle.tl_map_county.specs.declared.polygons.Polygon.{Polygon}
use Rattle.tl_map.proofs.left.keys_of.Given as goal

abbrev pub invariant-loop-polygon : goal.invariant-loop-polygon
invariant-loop-polygon l = l.made.items ≡ map (λ (x : Polygon). x.key) (take l.polygon-index l.polygons)
