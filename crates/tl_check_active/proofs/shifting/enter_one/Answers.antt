use Rattle.std.proofs.Common.{refl, subst, sym, ◌∙◌}
use Rattle.std.proofs.lemmas.Result.{err_from_is_err_and}
use Rattle.tl_check_planar.specs.ByHeight.Heights.{widest}
use Rattle.tl_check_planar.specs.ByHeight.Neighbours.{AreTested, EachTwo}
use Rattle.tl_check_active.proofs.Lining.{pushed}
use Rattle.tl_check_active.proofs.Tests.{never}
use Rattle.tl_check_active.proofs.shifting.enter_one.Goals as goal

pub returns-clause-tested : goal.returns-clause-tested
returns-clause-tested c = λ h two.
    subst (EachTwo (AreTested widest c.args.map.now.chains)) (sym c.in_ok-put.ensures.front)
    (pushed (AreTested widest c.args.map.now.chains) c.args.line.now.front c.args.s two (λ t e. c.may_follow.ensures c.if-not-may_follow.false t c.args.s (c.previous.ensures ∙ e) refl))

pub returns-then-not-may_follow-clause-front : goal.returns-then-not-may_follow-clause-front
returns-then-not-may_follow-clause-front c = λ h. never h

pub returns-then-not-may_follow-clause-back : goal.returns-then-not-may_follow-clause-back
returns-then-not-may_follow-clause-back c = λ h. never h

pub returns-then-not-may_follow-clause-tested : goal.returns-then-not-may_follow-clause-tested
returns-then-not-may_follow-clause-tested c = λ h. never h

pub returns-in_err-put-clause-front : goal.returns-in_err-put-clause-front
returns-in_err-put-clause-front c = let p = err_from_is_err_and c.from_residual.result c.from_residual.ensures.1 in rw p.1 tt

pub returns-in_err-put-clause-back : goal.returns-in_err-put-clause-back
returns-in_err-put-clause-back c = let p = err_from_is_err_and c.from_residual.result c.from_residual.ensures.1 in rw p.1 tt

pub returns-in_err-put-clause-tested : goal.returns-in_err-put-clause-tested
returns-in_err-put-clause-tested c = let p = err_from_is_err_and c.from_residual.result c.from_residual.ensures.1 in rw p.1 tt
