use Rattle.std.proofs.Common.{subst}
use Rattle.std.specs.Prelude.{IfSome}
use Rattle.tl_check_planar.specs.Searching.{IsTrueMeet}
use Rattle.tl_check_sweep.proofs.answer.sweep_events.Goals as goal

pub sweep_tested-requires-clause-vertices : goal.sweep_tested-requires-clause-vertices
sweep_tested-requires-clause-vertices c = c.meet_at_vertex.ensures.none c.in-None.is

pub returns-in-Some : goal.returns-in-Some
returns-in-Some c =
    c.answer_by_meet.ensures c.args.map.now c.args.gaps (subst (λ o. IfSome o (IsTrueMeet c.args.map.now.chains)) c.in-Some.is c.meet_at_vertex.ensures.meet)
