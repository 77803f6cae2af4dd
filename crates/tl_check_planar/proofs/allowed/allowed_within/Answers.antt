use Rattle.tl_check_planar.proofs.Ends.{within_next, within_far}
use Rattle.tl_check_planar.proofs.allowed.allowed_within.Goals as goal
use Rattle.tl_check_planar.proofs.allowed.allowed_within.Goals.{then-steps-eq1, else-steps-eq1}

pub returns : goal.returns
returns c =
    λ i j r e lt at. elim c.if-steps-eq1.branch [
      | then-steps-eq1 w ↦ within_next c.args.points.now c.args.vertex c.args.steps i j r (record { one = c.if-steps-eq1.one; other = c.closing_point.result }) e w.if-steps-eq1.true at w.one-is (c.closing_point.ensures i j r e lt)
      | else-steps-eq1 w ↦ within_far c.args.points.now c.args.steps i j r (record { one = c.if-steps-eq1.one; other = c.closing_point.result }) e w.if-steps-eq1.false w.one-is (c.closing_point.ensures i j r e lt)
    ]
