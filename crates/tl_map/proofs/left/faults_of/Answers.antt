use Rattle.std.proofs.lemmas.Result.{err_from_is_err_and}
use Rattle.tl_map.proofs.left.faults_of.Goals as goal

pub returns : goal.returns
returns c = λ rs h k.
    c.all_record_faults.ensures rs (rw (c.in_ok-summaries.ensures, c.deref.ensures.value, c.deref-2.ensures.value) h.chains) (c.in_ok-kept.ensures rs k)

pub summaries_of-requires : goal.summaries_of-requires
summaries_of-requires c = rw (c.deref.ensures.value, c.deref-2.ensures.value) c.requires.1.inside

pub returns-in_err-summaries : goal.returns-in_err-summaries
returns-in_err-summaries c = λ rs h k. let p = err_from_is_err_and c.from_residual.result c.from_residual.ensures.1 in rw p.1 tt

pub returns-in_err-kept : goal.returns-in_err-kept
returns-in_err-kept c = λ rs h k. let p = err_from_is_err_and c.from_residual-in_err-kept.result c.from_residual-in_err-kept.ensures.1 in rw p.1 tt
