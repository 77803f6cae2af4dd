use Rattle.std.proofs.Common.{length}
use Rattle.tl_check_gaps.proofs.Unmarked.{AreListedBefore}
use Rattle.tl_check_gaps.proofs.spots.list_unmarked.Given as goal

abbrev pub invariant-loop-p : goal.invariant-loop-p
invariant-loop-p l = AreListedBefore (length l.map.polygons) l.marks l.p l.polygons.items
