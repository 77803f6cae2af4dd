use Rattle.std.proofs.Common.{◌≡◌, take}
use Rattle.std.specs.Prelude.{option_copied}
use Rattle.tigertopo_faults.specs.Records.SpokenOf.{chains_of}
use Rattle.tigertopo_faults.specs.Geojson.Texts.{named_tlids}
use Rattle.tigertopo_faults.proofs.geojson.chains.list_in_order.Given as goal

abbrev pub invariant-loop-fault : goal.invariant-loop-fault
invariant-loop-fault l = l.tlids.items ≡ named_tlids (chains_of (option_copied l.drawn)) (take l.fault-index l.faults)
