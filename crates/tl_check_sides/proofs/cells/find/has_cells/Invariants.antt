use Rattle.tl_check_sides.proofs.CellsLemmas.Cells.{HaveNoneBelow}
use Rattle.tl_check_sides.proofs.cells.find.has_cells.Given as goal

abbrev pub invariant-loop-dart : goal.invariant-loop-dart
invariant-loop-dart l = HaveNoneBelow l.map.chains l.dart
