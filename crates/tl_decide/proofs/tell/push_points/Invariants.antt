use Rattle.std.proofs.Common.{◌≡◌, ◌++◌, take, map}
use Rattle.tl_check_verdict.specs.declared.fault.MapFault.TheVariants as fault
use Rattle.tl_decide.proofs.tell.push_points.Given as goal

abbrev pub invariant-loop-misplaced : goal.invariant-loop-misplaced
invariant-loop-misplaced l = l.faults.items ≡ l.fn.faults.items ++ map fault.PolygonPoint (take l.misplaced-index l.points)
