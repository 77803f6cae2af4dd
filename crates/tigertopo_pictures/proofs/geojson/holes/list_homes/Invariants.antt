use Rattle.std.proofs.Common.{◌≡◌, take, map}
use Rattle.tigertopo_pictures.specs.Geojson.Holes.{home}
use Rattle.tigertopo_pictures.proofs.geojson.holes.list_homes.Given as goal

abbrev pub invariant-loop-number : goal.invariant-loop-number
invariant-loop-number l = l.list.items ≡ take l.number (map (home l.map.chains (map (λ w. w.items) l.walks)) (map (λ w. w.items) l.walks))
