use Rattle.tl_check_sides.specs.Headed.{AreHeaded}
use Rattle.tl_check_sides.proofs.headed.headed_darts.Given as goal

abbrev pub invariant-loop-dart : goal.invariant-loop-dart
invariant-loop-dart l = AreHeaded l.map.chains l.dart l.darts.items
