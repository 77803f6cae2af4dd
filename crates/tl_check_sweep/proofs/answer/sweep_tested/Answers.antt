use Rattle.std.proofs.lemmas.Result.{err_from_is_err_and}
use Rattle.tl_check_sweep.proofs.answer.sweep_tested.Goals as goal

pub returns-in_err-told : goal.returns-in_err-told
returns-in_err-told c = let p = err_from_is_err_and c.from_residual.result c.from_residual.ensures.1 in rw p.1 tt

pub returns-in_err-told-2 : goal.returns-in_err-told-2
returns-in_err-told-2 c = let p = err_from_is_err_and c.from_residual-in_err-told-2.result c.from_residual-in_err-told-2.ensures.1 in rw p.1 tt

pub sweep_with-requires-clause-events : goal.sweep_with-requires-clause-events
sweep_with-requires-clause-events c = c.requires.events

pub sweep_with-requires-clause-rising : goal.sweep_with-requires-clause-rising
sweep_with-requires-clause-rising c = c.requires.rising

pub sweep_with-requires-clause-wide : goal.sweep_with-requires-clause-wide
sweep_with-requires-clause-wide c = c.requires.wide

pub sweep_with-requires-clause-ranges : goal.sweep_with-requires-clause-ranges
sweep_with-requires-clause-ranges c = c.requires.ranges

pub sweep_with-requires-clause-vertices : goal.sweep_with-requires-clause-vertices
sweep_with-requires-clause-vertices c = c.requires.vertices

pub sweep_with-requires-clause-proper : goal.sweep_with-requires-clause-proper
sweep_with-requires-clause-proper c = c.requires.proper

pub sweep_with-requires-2-clause-events : goal.sweep_with-requires-2-clause-events
sweep_with-requires-2-clause-events c = c.requires.events

pub sweep_with-requires-2-clause-rising : goal.sweep_with-requires-2-clause-rising
sweep_with-requires-2-clause-rising c = c.requires.rising

pub sweep_with-requires-2-clause-wide : goal.sweep_with-requires-2-clause-wide
sweep_with-requires-2-clause-wide c = c.requires.wide

pub sweep_with-requires-2-clause-ranges : goal.sweep_with-requires-2-clause-ranges
sweep_with-requires-2-clause-ranges c = c.requires.ranges

pub sweep_with-requires-2-clause-vertices : goal.sweep_with-requires-2-clause-vertices
sweep_with-requires-2-clause-vertices c = c.requires.vertices

pub sweep_with-requires-2-clause-proper : goal.sweep_with-requires-2-clause-proper
sweep_with-requires-2-clause-proper c = c.requires.proper

pub returns-in-Some : goal.returns-in-Some
returns-in-Some c = rw c.in-Some.is at c.in_ok-told.ensures.told

pub returns : goal.returns
returns c = rw c.in-Some-2.is at c.in_ok-told-2.ensures.told
