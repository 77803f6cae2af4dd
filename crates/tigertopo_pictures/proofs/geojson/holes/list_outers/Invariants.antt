use Rattle.std.proofs.Common.{◌≡◌, take, map}
use Rattle.tigertopo_pictures.specs.Geojson.Holes.{outer_polygon}
use Rattle.tigertopo_pictures.proofs.geojson.holes.list_outers.Given as goal

abbrev pub invariant-loop-number : goal.invariant-loop-number
invariant-loop-number l = l.list.items ≡ take l.number (map (outer_polygon l.map.chains) (map (λ w. w.items) l.walks))
