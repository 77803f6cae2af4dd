use Rattle.tl_geom.proofs.Conditions.{within_test, not_within_test}
use Rattle.tl_geom.proofs.rect.is_within.Goals as goal

pub returns-then-low-v : goal.returns-then-low-v
returns-then-low-v c = within_test c.args.low c.args.v c.args.high c.ranges.low c.ranges.v c.ranges.high c.if-low-v.true

pub returns-else-low-v : goal.returns-else-low-v
returns-else-low-v c = not_within_test c.args.low c.args.v c.args.high c.ranges.low c.ranges.v c.if-low-v.false
