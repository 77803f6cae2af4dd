use Rattle.std.proofs.Common.{subst}
use Rattle.std.proofs.lemmas.Result.{err_from_is_err_and}
use Rattle.std.specs.Option.{IfSome}
use Rattle.tl_check_sides.specs.Cells.Cells.{AreCellsAtOdds}
use Rattle.tl_check.proofs.tree.begin_rounds.Goals as goal

pub returns-in-Some-clause-halts : goal.returns-in-Some-clause-halts
returns-in-Some-clause-halts c = subst (λ found. IfSome found (λ odds. AreCellsAtOdds c.args.map.now.chains odds.first odds.second odds.first_id odds.second_id)) c.in-Some.is c.in_ok-odds.ensures.at_odds

pub returns-in_err-odds-clause-halts : goal.returns-in_err-odds-clause-halts
returns-in_err-odds-clause-halts c = let p = err_from_is_err_and c.from_residual.result c.from_residual.ensures.1 in rw (p.1, p.2) tt

pub returns-in_err-new-clause-halts : goal.returns-in_err-new-clause-halts
returns-in_err-new-clause-halts c = let p = err_from_is_err_and c.from_residual-in_err-new.result c.from_residual-in_err-new.ensures.1 in rw (p.1, p.2) tt
