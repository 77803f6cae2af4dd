use Rattle.std.proofs.Common.{◌≡◌, drop}
use Rattle.tigertopo_pictures.specs.Svg.Fills.{around_darts}
use Rattle.tigertopo_pictures.proofs.svg.filled.around_darts.Given as goal

abbrev pub invariant-loop-dart : goal.invariant-loop-dart
invariant-loop-dart l = around_darts l.map.chains l.rect (drop l.dart-index l.darts) ≡ around_darts l.map.chains l.initial.rect l.darts
