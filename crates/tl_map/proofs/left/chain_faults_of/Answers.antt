use Rattle.std.proofs.lemmas.Result.{err_from_is_err_and}
use Rattle.tl_map.proofs.left.chain_faults_of.Goals as goal

pub returns : goal.returns
returns c = λ rs h. c.all_chain_faults.ensures rs (rw (c.in_ok-summaries.ensures, c.deref.ensures.value, c.deref-2.ensures.value) h.chains)

pub summaries_of-requires : goal.summaries_of-requires
summaries_of-requires c = rw (c.deref.ensures.value, c.deref-2.ensures.value) c.requires.1.inside

pub returns-in_err-summaries : goal.returns-in_err-summaries
returns-in_err-summaries c = λ rs h. let p = err_from_is_err_and c.from_residual.result c.from_residual.ensures.1 in rw p.1 tt
