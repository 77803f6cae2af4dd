use Rattle.std.proofs.Common.{◌∙◌}
use Rattle.tl_check_planar.specs.ByHeight.Heights.{widest}
use Rattle.tl_check_gaps.proofs.Spotting.{east_of_last, west_of_first}
use Rattle.tl_check_active.proofs.Tests.{never}
use Rattle.tl_check_gaps.proofs.placing.sees.Goals as goal

pub returns-clause-east : goal.returns-clause-east
returns-clause-east c = λ h. east_of_last widest c.args.map.now.chains c.args.p c.args.line.now.front (λ t e. c.is_east_of.ensures c.if-not-is_east_of.false t (c.previous.ensures ∙ e))

pub returns-clause-west : goal.returns-clause-west
returns-clause-west c = λ h. west_of_first widest c.args.map.now.chains c.args.p c.args.line.now.back (λ t e. c.is_west_of.ensures c.if-not-is_west_of.false t (c.next.ensures ∙ e))

pub returns-then-not-is_east_of-clause-east : goal.returns-then-not-is_east_of-clause-east
returns-then-not-is_east_of-clause-east c = λ h. never h

pub returns-then-not-is_east_of-clause-west : goal.returns-then-not-is_east_of-clause-west
returns-then-not-is_east_of-clause-west c = λ h. never h

pub returns-then-not-is_east_of-clause-sees : goal.returns-then-not-is_east_of-clause-sees
returns-then-not-is_east_of-clause-sees c = λ h. never h

pub returns-then-not-is_west_of-clause-east : goal.returns-then-not-is_west_of-clause-east
returns-then-not-is_west_of-clause-east c = λ h. never h

pub returns-then-not-is_west_of-clause-west : goal.returns-then-not-is_west_of-clause-west
returns-then-not-is_west_of-clause-west c = λ h. never h

pub returns-then-not-is_west_of-clause-sees : goal.returns-then-not-is_west_of-clause-sees
returns-then-not-is_west_of-clause-sees c = λ h. never h
