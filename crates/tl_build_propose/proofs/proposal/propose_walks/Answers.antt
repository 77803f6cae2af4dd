use Rattle.std.proofs.lemmas.Result.{err_from_is_err_and}
use Rattle.tl_check_inside.proofs.Placing.{if_ok}
use Rattle.tl_check_faces.proofs.CrossingsLemmas.Apart.{apart}
use Rattle.tl_build_propose.proofs.proposal.propose_walks.Goals as goal

pub walks_of-requires : goal.walks_of-requires
walks_of-requires c = c.in_ok-starts.ensures

pub returns-clause-hold : goal.returns-clause-hold
returns-clause-hold c = c.walks_of.ensures.hold

pub returns-clause-are_walks : goal.returns-clause-are_walks
returns-clause-are_walks c = if_ok c.walks_of.result (λ walks are proper planar. are proper (apart c.args.map.now.chains planar proper)) c.walks_of.ensures.are_walks

pub returns-clause-counted : goal.returns-clause-counted
returns-clause-counted c = c.walks_of.ensures.counted

pub returns-in_err-starts-clause-hold : goal.returns-in_err-starts-clause-hold
returns-in_err-starts-clause-hold c = let p = err_from_is_err_and c.from_residual.result c.from_residual.ensures.1 in rw p.1 tt

pub returns-in_err-starts-clause-are_walks : goal.returns-in_err-starts-clause-are_walks
returns-in_err-starts-clause-are_walks c = let p = err_from_is_err_and c.from_residual.result c.from_residual.ensures.1 in rw p.1 tt

pub returns-in_err-starts-clause-counted : goal.returns-in_err-starts-clause-counted
returns-in_err-starts-clause-counted c = let p = err_from_is_err_and c.from_residual.result c.from_residual.ensures.1 in rw p.1 tt
