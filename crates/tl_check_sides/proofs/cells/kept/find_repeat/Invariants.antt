use Rattle.tl_check_sides.proofs.CellsLemmas.Rising.{NeighboursDiffer}
use Rattle.tl_check_sides.proofs.cells.kept.find_repeat.Given as goal

abbrev pub invariant-loop-place : goal.invariant-loop-place
invariant-loop-place l = NeighboursDiffer l.kept l.place
