use Rattle.std.proofs.Common.{◌≡◌, ℕ, ◌<◌, length, None}
use Rattle.std.specs.Prelude.{slice_index_or}
use Rattle.tigertopo_pictures.specs.Svg.Colours.{left_polygon}
use Rattle.tigertopo_pictures.proofs.svg.colours.left_polygons.Given as goal

abbrev pub invariant-loop-dart : goal.invariant-loop-dart
invariant-loop-dart l = record {
  long : length l.lefts.items ≡ l.dart;
  each : (d : ℕ) → d < l.dart → slice_index_or l.lefts.items d None ≡ left_polygon l.map.chains d;
}
