use Rattle.std.proofs.Common.{◌≡◌, ◌≤◌, ◌*◌, ◌^◌, unsigned_abs}
use Rattle.std.specs.Prelude.{slice_index}
use Rattle.tigertopo_pictures.specs.Geojson.Areas.{sum_below}
use Rattle.tigertopo_pictures.specs.Geojson.Holes.{dart_crossings}
use Rattle.tigertopo_pictures.proofs.geojson.windings.winding.Given as goal

abbrev pub invariant-loop-dart : goal.invariant-loop-dart
invariant-loop-dart l = record {
  sum : l.sum ≡ sum_below (λ k. dart_crossings l.map.chains l.q (slice_index l.walk k)) l.dart-index;
  bound : unsigned_abs l.sum ≤ l.dart-index * 2 ^ 24;
}
