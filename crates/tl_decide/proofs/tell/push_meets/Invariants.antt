use Rattle.std.proofs.Common.{◌≡◌, ◌++◌, take, map}
use Rattle.tl_check_verdict.specs.declared.fault.MapFault.TheVariants as fault
use Rattle.tl_decide.proofs.tell.push_meets.Given as goal

abbrev pub invariant-loop-meet : goal.invariant-loop-meet
invariant-loop-meet l = l.faults.items ≡ l.fn.faults.items ++ map fault.Meet (take l.meet-index l.meets)
