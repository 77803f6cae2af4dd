use Rattle.std.proofs.Common.{◌+◌, length}
use Rattle.tl_check_points.proofs.Going.{IsGoing}
use Rattle.tl_check_points.proofs.ways.go.Given as goal

abbrev pub invariant-loop-one : goal.invariant-loop-one
invariant-loop-one l = IsGoing (length l.map.polygons) l.gaps l.fn.to l.one l.other l.journal.items

-- both numbers, of which one falls
abbrev pub decreases-loop-one : goal.decreases-loop-one
decreases-loop-one l = l.one + l.other
