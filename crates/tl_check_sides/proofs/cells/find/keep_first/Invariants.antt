use Rattle.tl_check_sides.specs.Cells.Keeping.Kept.{KeepFirst}
use Rattle.tl_check_sides.proofs.cells.find.keep_first.Given as goal

-- the darts so far are kept
abbrev pub invariant-loop-dart : goal.invariant-loop-dart
invariant-loop-dart l = KeepFirst l.map.chains l.dart l.kept
