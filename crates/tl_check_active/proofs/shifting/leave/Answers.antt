use Rattle.tl_check_active.proofs.Tests.{never}
use Rattle.tl_check_active.proofs.shifting.leave.Goals as goal

pub returns-then-ne-clause-back : goal.returns-then-ne-clause-back
returns-then-ne-clause-back c = λ h. never h
