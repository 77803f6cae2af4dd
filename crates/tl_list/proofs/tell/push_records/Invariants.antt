use Rattle.std.proofs.Common.{◌≡◌, ◌++◌, take, map, filter}
use Rattle.tl_check_verdict.specs.declared.fault.MapFault.TheVariants as fault
use Rattle.tl_list.specs.Listings.{stands_alone}
use Rattle.tl_list.proofs.tell.push_records.Given as goal

abbrev pub invariant-loop-fault : goal.invariant-loop-fault
invariant-loop-fault l = l.faults.items ≡ l.fn.faults.items ++ map fault.Records (filter (stands_alone l.lacking) (take l.fault-index l.told))
