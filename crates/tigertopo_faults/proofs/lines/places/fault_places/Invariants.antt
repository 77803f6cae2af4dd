use Rattle.std.proofs.Common.{◌≡◌, map, take}
use Rattle.std.specs.Prelude.{option_copied}
use Rattle.tigertopo_faults.specs.Lines.Places.{fault_place}
use Rattle.tigertopo_faults.proofs.lines.places.fault_places.Given as goal

abbrev pub invariant-loop-fault : goal.invariant-loop-fault
invariant-loop-fault l = l.places.items ≡ map (fault_place (option_copied l.map)) (take l.fault-index l.faults)
