use Rattle.std.proofs.Common.{◌≡◌, take}
use Rattle.tigertopo_pictures.specs.Geojson.Holes.{north_of}
use Rattle.tigertopo_pictures.proofs.geojson.windings.ring_north.Given as goal

abbrev pub invariant-loop-dart : goal.invariant-loop-dart
invariant-loop-dart l = l.found ≡ north_of l.map.chains l.initial.found (take l.dart-index l.walk)
