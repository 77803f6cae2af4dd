use Rattle.std.proofs.Common.{take}
use Rattle.tl_check_active.specs.Events.{joined}
use Rattle.tl_check_points.proofs.Upward.{AreRisingTo}
use Rattle.tl_check_points.proofs.rising.are_rising.Given as goal

abbrev pub invariant-loop-k : goal.invariant-loop-k
invariant-loop-k l = AreRisingTo l.last (joined (take l.k l.events))
