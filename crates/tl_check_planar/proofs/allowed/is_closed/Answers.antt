use Rattle.std.proofs.Common.{length, ◌-◌, arith}
use Rattle.tl_check_planar.proofs.Ends.{at_two}
use Rattle.tl_check_planar.proofs.allowed.is_closed.Goals as goal

pub returns : goal.returns
returns c =
    let two = at_two c.args.points.now 0 (length c.args.points.now - 1) _ (omega arith) (omega arith) in
    (λ h. two.1 (c.is_same.ensures.0 h), λ e. c.is_same.ensures.1 (two.0 e))
