use Rattle.std.proofs.Common.{arith}
use Rattle.tl_tree_index.proofs.Marks.{times-at, marks-more, twice}
use Rattle.tl_tree.proofs.check.mark_items.Goals as goal

pub returns-then-place-marks-clause-fault : goal.returns-then-place-marks-clause-fault
returns-then-place-marks-clause-fault c = (omega (arith, c.if-place-marks.true, c.loop-i.invariant.complete), times-at c.args.some.now c.loop-i.i-index c.loop-i-test.true)

pub returns-then-marks-place-clause-fault : goal.returns-then-marks-place-clause-fault
returns-then-marks-place-clause-fault c = twice c.args.marks.now c.args.some.now c.loop-i.i-index c.loop-i.marks c.loop-i.invariant c.loop-i-test.true c.if-marks-place.true

pub loop-i-preserved : goal.loop-i-preserved
loop-i-preserved c = marks-more c.args.marks.now c.args.some.now c.loop-i.i-index c.loop-i.marks c.loop-i.invariant c.loop-i-test.true c.if-place-marks.false c.if-marks-place.false
