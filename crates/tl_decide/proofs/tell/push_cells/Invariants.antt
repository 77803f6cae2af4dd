use Rattle.std.proofs.Common.{◌≡◌, ◌++◌, take, map}
use Rattle.tl_check_verdict.specs.declared.fault.MapFault.TheVariants as fault
use Rattle.tl_decide.proofs.tell.push_cells.Given as goal

abbrev pub invariant-loop-odds : goal.invariant-loop-odds
invariant-loop-odds l = l.faults.items ≡ l.fn.faults.items ++ map fault.Cell (take l.odds-index l.cells)
