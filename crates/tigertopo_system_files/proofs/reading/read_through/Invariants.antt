use Rattle.std.proofs.Common.{◌≡◌}
use Rattle.tigertopo_system_files.proofs.ReadLemmas.{IsReadOn}
use Rattle.tigertopo_system_files.proofs.reading.read_through.Given as goal

abbrev pub invariant-loop : goal.invariant-loop
invariant-loop g l =
    (g.S.Source.failure_count l.source ≡ g.S.Source.failure_count l.initial.source)
    × IsReadOn (g.S.Source.remaining l.initial.source) (g.S.Source.remaining l.source) l.counter
