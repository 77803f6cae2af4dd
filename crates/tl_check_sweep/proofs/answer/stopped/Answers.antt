use Rattle.std.proofs.Common.{subst}
use Rattle.std.specs.Prelude.{IfSome}
use Rattle.tl_check_planar.specs.Searching.{IsTrueMeet}
use Rattle.tl_check_sweep.proofs.answer.stopped.Goals as goal

pub returns-in-Some-clause-told : goal.returns-in-Some-clause-told
returns-in-Some-clause-told c = λ m gaps is.
    c.answer_by_meet.ensures m gaps (subst (λ found. IfSome found (IsTrueMeet m.chains)) c.in-Some.is is)
