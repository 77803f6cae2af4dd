use Rattle.std.proofs.lemmas.Result.{err_from_is_err_and}
use Rattle.tl_map.proofs.LeftLemmas.{tlids_often}
use Rattle.tl_map.proofs.left.faults_behind.Goals as goal
use Rattle.tl_map_rules.proofs.ListingLemmas.LimitLemmas.{rises}

pub returns : goal.returns
returns c = λ rs skipped built k.
    c.faults_behind_chains.ensures rs built.no_fault (rw (c.deref.ensures.value, c.in_ok-tlids.ensures) (tlids_often rs c.args.chains.now.chains built.chains built.no_fault.once)) (c.in_ok-kept.ensures rs k)

pub faults_behind_chains-requires : goal.faults_behind_chains-requires
faults_behind_chains-requires c = rw (c.deref.ensures.value, c.in_ok-tlids.ensures) (rises _ c.requires)

pub returns-in_err-tlids : goal.returns-in_err-tlids
returns-in_err-tlids c = λ rs skipped built k. let p = err_from_is_err_and c.from_residual.result c.from_residual.ensures.1 in rw p.1 tt

pub returns-in_err-kept : goal.returns-in_err-kept
returns-in_err-kept c = λ rs skipped built k. let p = err_from_is_err_and c.from_residual-in_err-kept.result c.from_residual-in_err-kept.ensures.1 in rw p.1 tt
