use Rattle.tl_check_active.proofs.Tests.{never}
use Rattle.tl_check_active.proofs.shifting.enter.Goals as goal

pub returns-then-not-branch-clause-front : goal.returns-then-not-branch-clause-front
returns-then-not-branch-clause-front c = λ h. never h

pub returns-then-not-branch-clause-back : goal.returns-then-not-branch-clause-back
returns-then-not-branch-clause-back c = λ h. never h

pub returns-then-not-branch-clause-tested : goal.returns-then-not-branch-clause-tested
returns-then-not-branch-clause-tested c = λ h. never h
