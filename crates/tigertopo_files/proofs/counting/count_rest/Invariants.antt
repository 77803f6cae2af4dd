use Rattle.tigertopo_files.proofs.CountsLemmas.{IsReadOn}
use Rattle.tigertopo_files.proofs.counting.count_rest.Given as goal

abbrev pub invariant-loop : goal.invariant-loop
invariant-loop g l = IsReadOn (g.S.Source.remaining l.initial.source) (g.S.Source.remaining l.source) l.initial.all l.all l.counter
