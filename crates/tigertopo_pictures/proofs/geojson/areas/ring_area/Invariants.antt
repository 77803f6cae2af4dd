use Rattle.std.proofs.Common.{◌≡◌, ◌≤◌, ◌*◌, ◌^◌, unsigned_abs}
use Rattle.std.specs.Prelude.{slice_index}
use Rattle.tigertopo_pictures.specs.Geojson.Areas.{sum_below, dart_sum}
use Rattle.tigertopo_pictures.proofs.geojson.areas.ring_area.Given as goal

abbrev pub invariant-loop-dart : goal.invariant-loop-dart
invariant-loop-dart l = record {
  sum : l.sum ≡ sum_below (λ k. dart_sum l.map.chains (slice_index l.walk k)) l.dart-index;
  bound : unsigned_abs l.sum ≤ l.dart-index * 2 ^ 89;
}
