use Rattle.std.proofs.Common.{arith}
use Rattle.std.proofs.lemmas.Int.{ints}
use Rattle.tl_check_sweep.proofs.meets.are_in_order.Goals as goal

pub returns-then-e-f-2 : goal.returns-then-e-f-2
returns-then-e-f-2 c = λ h. record { rising = omega (arith, ints); meets = λ e. c.may_meet.ensures h }
