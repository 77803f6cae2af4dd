use Rattle.std.proofs.lemmas.Result.{err_from_is_err_and}
use Rattle.tl_check_active.proofs.Tests.{never}
use Rattle.tl_check_active.proofs.shifting.shift.Goals as goal

pub returns-then-not-branch-clause-front : goal.returns-then-not-branch-clause-front
returns-then-not-branch-clause-front c = λ h. never h

pub returns-then-not-branch-clause-back : goal.returns-then-not-branch-clause-back
returns-then-not-branch-clause-back c = λ h. never h

pub returns-then-not-branch-clause-tested : goal.returns-then-not-branch-clause-tested
returns-then-not-branch-clause-tested c = λ h. never h

pub returns-in_err-replace-clause-front : goal.returns-in_err-replace-clause-front
returns-in_err-replace-clause-front c = let p = err_from_is_err_and c.from_residual.result c.from_residual.ensures.1 in rw p.1 tt

pub returns-in_err-replace-clause-back : goal.returns-in_err-replace-clause-back
returns-in_err-replace-clause-back c = let p = err_from_is_err_and c.from_residual.result c.from_residual.ensures.1 in rw p.1 tt

pub returns-in_err-replace-clause-tested : goal.returns-in_err-replace-clause-tested
returns-in_err-replace-clause-tested c = let p = err_from_is_err_and c.from_residual.result c.from_residual.ensures.1 in rw p.1 tt
