use Rattle.std.proofs.Common.{◌≡◌, ◌++◌, take, map}
use Rattle.tl_decide.specs.MapFaults.{side_fault}
use Rattle.tl_decide.proofs.tell.push_sides.Given as goal

abbrev pub invariant-loop-side : goal.invariant-loop-side
invariant-loop-side l = l.faults.items ≡ l.fn.faults.items ++ map (side_fault l.county.chains) (take l.side-index l.sides)
