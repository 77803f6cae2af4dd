use Rattle.std.specs.Prelude.{option_copied}
use Rattle.tigertopo_faults.specs.Records.SpokenOf.{chains_of}
use Rattle.tigertopo_faults.specs.Records.Wanting.{HasFirst}
use Rattle.tigertopo_faults.proofs.records.wanted.wanted_subjects.Given as goal

abbrev pub invariant-loop-fault : goal.invariant-loop-fault
invariant-loop-fault l = HasFirst (chains_of (option_copied l.map)) l.faults l.subjects.keys l.fault-index
