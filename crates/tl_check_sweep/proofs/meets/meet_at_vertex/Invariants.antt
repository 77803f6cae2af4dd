use Rattle.std.proofs.Common.{length, take}
use Rattle.tl_check_active.specs.Events.{joined}
use Rattle.tl_check_gaps.specs.Keeping.Vertices.{AreInOrderUpTo}
use Rattle.tl_check_sweep.proofs.meets.meet_at_vertex.Given as goal

abbrev pub invariant-loop-k : goal.invariant-loop-k
invariant-loop-k l = AreInOrderUpTo l.map.chains (length (joined (take l.k l.events))) (joined (take l.k l.events))
