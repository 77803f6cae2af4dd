use Rattle.std.proofs.Common.{◌≡◌, take, map}
use Rattle.tigertopo_pictures.specs.Walks.{walk_polygon}
use Rattle.tigertopo_pictures.proofs.svg.fills.polygons_of.Given as goal

abbrev pub invariant-loop-number : goal.invariant-loop-number
invariant-loop-number l = l.list.items ≡ take l.number (map (walk_polygon l.map.chains) (map (λ w. w.items) l.walks))
