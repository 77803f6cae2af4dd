use Rattle.tl_map.proofs.IndexLemmas.{number_tested}
use Rattle.tl_map.proofs.guess.is_number.Goals as goal

pub returns-in-Some-clause-index : goal.returns-in-Some-clause-index
returns-in-Some-clause-index c = number_tested c.args.index.now c.args.number c.args.key (c.in-Some.known.now, _) c.eq.result c.len.ensures.unique (rw c.in-Some.is at c.get_index.ensures.entry) c.eq.ensures
