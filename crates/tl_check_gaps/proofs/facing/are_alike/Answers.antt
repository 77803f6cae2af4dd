use Rattle.tl_check_active.proofs.Tests.{never}
use Rattle.tl_check_gaps.proofs.facing.are_alike.Goals as goal

pub returns-in-Some-None : goal.returns-in-Some-None
returns-in-Some-None c = λ h. never h

pub returns-in-None-default : goal.returns-in-None-default
returns-in-None-default c = λ h. never h
