use Rattle.std.proofs.Common.{sym, subst}
use Rattle.std.proofs.lemmas.Result.{err_from_is_err_and}
use Rattle.tl_check_faces.proofs.CrossingsLemmas.Apart.{apart}
use Rattle.tl_build_propose.specs.Keeping.Sorting.{AreStarts}
use Rattle.tl_build_propose.proofs.proposal.propose_rings.Goals as goal

pub rounds_of-requires : goal.rounds_of-requires
rounds_of-requires c = subst (AreStarts c.args.map.now.chains) (sym c.deref.ensures.value) c.in_ok-starts.ensures

pub walks_of-requires : goal.walks_of-requires
walks_of-requires c = c.in_ok-starts.ensures

pub returns-clause-rounds : goal.returns-clause-rounds
returns-clause-rounds c = c.in_ok-rounds.ensures.hold

pub returns-clause-walks : goal.returns-clause-walks
returns-clause-walks c = c.in_ok-walks.ensures.hold

pub returns-clause-are_rounds : goal.returns-clause-are_rounds
returns-clause-are_rounds c = c.in_ok-rounds.ensures.are_rounds

pub returns-clause-are_walks : goal.returns-clause-are_walks
returns-clause-are_walks c = λ proper planar. c.in_ok-walks.ensures.are_walks proper (apart c.args.map.now.chains planar proper)

pub returns-clause-rounds_counted : goal.returns-clause-rounds_counted
returns-clause-rounds_counted c = c.in_ok-rounds.ensures.counted

pub returns-clause-walks_counted : goal.returns-clause-walks_counted
returns-clause-walks_counted c = c.in_ok-walks.ensures.counted

pub returns-in_err-starts-clause-rounds : goal.returns-in_err-starts-clause-rounds
returns-in_err-starts-clause-rounds c = let p = err_from_is_err_and c.from_residual.result c.from_residual.ensures.1 in rw p.1 tt

pub returns-in_err-starts-clause-walks : goal.returns-in_err-starts-clause-walks
returns-in_err-starts-clause-walks c = let p = err_from_is_err_and c.from_residual.result c.from_residual.ensures.1 in rw p.1 tt

pub returns-in_err-starts-clause-are_rounds : goal.returns-in_err-starts-clause-are_rounds
returns-in_err-starts-clause-are_rounds c = let p = err_from_is_err_and c.from_residual.result c.from_residual.ensures.1 in rw p.1 tt

pub returns-in_err-starts-clause-are_walks : goal.returns-in_err-starts-clause-are_walks
returns-in_err-starts-clause-are_walks c = let p = err_from_is_err_and c.from_residual.result c.from_residual.ensures.1 in rw p.1 tt

pub returns-in_err-starts-clause-rounds_counted : goal.returns-in_err-starts-clause-rounds_counted
returns-in_err-starts-clause-rounds_counted c = let p = err_from_is_err_and c.from_residual.result c.from_residual.ensures.1 in rw p.1 tt

pub returns-in_err-starts-clause-walks_counted : goal.returns-in_err-starts-clause-walks_counted
returns-in_err-starts-clause-walks_counted c = let p = err_from_is_err_and c.from_residual.result c.from_residual.ensures.1 in rw p.1 tt

pub returns-in_err-rounds-clause-rounds : goal.returns-in_err-rounds-clause-rounds
returns-in_err-rounds-clause-rounds c = let p = err_from_is_err_and c.from_residual-in_err-rounds.result c.from_residual-in_err-rounds.ensures.1 in rw p.1 tt

pub returns-in_err-rounds-clause-walks : goal.returns-in_err-rounds-clause-walks
returns-in_err-rounds-clause-walks c = let p = err_from_is_err_and c.from_residual-in_err-rounds.result c.from_residual-in_err-rounds.ensures.1 in rw p.1 tt

pub returns-in_err-rounds-clause-are_rounds : goal.returns-in_err-rounds-clause-are_rounds
returns-in_err-rounds-clause-are_rounds c = let p = err_from_is_err_and c.from_residual-in_err-rounds.result c.from_residual-in_err-rounds.ensures.1 in rw p.1 tt

pub returns-in_err-rounds-clause-are_walks : goal.returns-in_err-rounds-clause-are_walks
returns-in_err-rounds-clause-are_walks c = let p = err_from_is_err_and c.from_residual-in_err-rounds.result c.from_residual-in_err-rounds.ensures.1 in rw p.1 tt

pub returns-in_err-rounds-clause-rounds_counted : goal.returns-in_err-rounds-clause-rounds_counted
returns-in_err-rounds-clause-rounds_counted c = let p = err_from_is_err_and c.from_residual-in_err-rounds.result c.from_residual-in_err-rounds.ensures.1 in rw p.1 tt

pub returns-in_err-rounds-clause-walks_counted : goal.returns-in_err-rounds-clause-walks_counted
returns-in_err-rounds-clause-walks_counted c = let p = err_from_is_err_and c.from_residual-in_err-rounds.result c.from_residual-in_err-rounds.ensures.1 in rw p.1 tt

pub returns-in_err-walks-clause-rounds : goal.returns-in_err-walks-clause-rounds
returns-in_err-walks-clause-rounds c = let p = err_from_is_err_and c.from_residual-in_err-walks.result c.from_residual-in_err-walks.ensures.1 in rw p.1 tt

pub returns-in_err-walks-clause-walks : goal.returns-in_err-walks-clause-walks
returns-in_err-walks-clause-walks c = let p = err_from_is_err_and c.from_residual-in_err-walks.result c.from_residual-in_err-walks.ensures.1 in rw p.1 tt

pub returns-in_err-walks-clause-are_rounds : goal.returns-in_err-walks-clause-are_rounds
returns-in_err-walks-clause-are_rounds c = let p = err_from_is_err_and c.from_residual-in_err-walks.result c.from_residual-in_err-walks.ensures.1 in rw p.1 tt

pub returns-in_err-walks-clause-are_walks : goal.returns-in_err-walks-clause-are_walks
returns-in_err-walks-clause-are_walks c = let p = err_from_is_err_and c.from_residual-in_err-walks.result c.from_residual-in_err-walks.ensures.1 in rw p.1 tt

pub returns-in_err-walks-clause-rounds_counted : goal.returns-in_err-walks-clause-rounds_counted
returns-in_err-walks-clause-rounds_counted c = let p = err_from_is_err_and c.from_residual-in_err-walks.result c.from_residual-in_err-walks.ensures.1 in rw p.1 tt

pub returns-in_err-walks-clause-walks_counted : goal.returns-in_err-walks-clause-walks_counted
returns-in_err-walks-clause-walks_counted c = let p = err_from_is_err_and c.from_residual-in_err-walks.result c.from_residual-in_err-walks.ensures.1 in rw p.1 tt
