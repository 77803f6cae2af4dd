use Rattle.std.proofs.Common.{◌≡◌, ◌≤◌, ◌*◌, ◌^◌, ◌-◌, ◌%◌, unsigned_abs}
use Rattle.std.specs.Prelude.{◌==◌}
use Rattle.tl_map_county.specs.Darts.{directed}
use Rattle.tigertopo_pictures.specs.Geojson.Areas.{sum_below, step_cross_at}
use Rattle.tigertopo_pictures.proofs.geojson.areas.dart_sum.Given as goal

abbrev pub invariant-loop-place : goal.invariant-loop-place
invariant-loop-place l = record {
  some : 1 ≤ l.place;
  sum : l.sum ≡ sum_below (step_cross_at (directed (l.dart % 2 == 0) l.points)) (l.place - 1);
  bound : unsigned_abs l.sum ≤ (l.place - 1) * 2 ^ 65;
}
