use Rattle.tl_check_gaps.specs.Keeping.Ranges.{AreFirstInRange}
use Rattle.tl_check_gaps.proofs.near.look_along.Given as goal

-- those of the points so far
abbrev pub invariant-loop-k : goal.invariant-loop-k
invariant-loop-k l = AreFirstInRange l.points l.k
