use Rattle.std.proofs.Common.{◌≡◌, take}
use Rattle.tl_map_county.specs.Darts.{directed}
use Rattle.tigertopo_pictures.specs.Geojson.Holes.{northernmost}
use Rattle.tigertopo_pictures.proofs.geojson.windings.northernmost.Given as goal

abbrev pub invariant-loop-place : goal.invariant-loop-place
invariant-loop-place l = l.found ≡ northernmost l.fn.point (take l.place (directed l.is_along l.points))
