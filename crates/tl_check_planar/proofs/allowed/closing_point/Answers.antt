use Rattle.std.proofs.lemmas.Bool.{iff_false}
use Rattle.tl_check_planar.proofs.Ends.{closing_start, closed_ends}
use Rattle.std.proofs.Common.{arith}
use Rattle.tl_check_planar.proofs.allowed.closing_point.Goals as goal

pub returns-then-steps-points : goal.returns-then-steps-points
returns-then-steps-points c = λ i j r e lt. (
  λ none. absurd none,
  λ k. let first = k.first in let last = k.last in absurd (c.if-steps-points.true (omega (arith, e, first, last))),
)

pub returns-then-is_closed : goal.returns-then-is_closed
returns-then-is_closed c = λ i j r e lt.
    closing_start c.args.points.now c.args.steps i j r _ c.requires c.if-steps-points.false (c.is_closed.ensures.0 c.if-is_closed.true) e lt

pub returns-else-is_closed : goal.returns-else-is_closed
returns-else-is_closed c = λ i j r e lt. (
  λ none. absurd none,
  λ k. absurd (iff_false c.is_closed.ensures c.if-is_closed.false (closed_ends c.args.points.now i j r k)),
)
