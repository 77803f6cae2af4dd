use Rattle.std.proofs.Common.{below_none, below_more, arith}
use Rattle.tl_tree.proofs.Checks.{found, missing, fitting}
use Rattle.tl_tree.proofs.check.check_marked.Goals as goal

pub returns-in-Err : goal.returns-in-Err
returns-in-Err g c = found (g.W.Trees.forest c.args.trees.now) (g.I.Items.count c.args.items.now) (g.I.Items.bounds_of c.args.items.now) c.args.marks.now c.in-Err.fault c.requires.marks c.requires.unmarked c.in-Err.ensures

pub returns-then-not-marks-i : goal.returns-then-not-marks-i
returns-then-not-marks-i g c = (
  omega (arith, c.loop-i-test.true, c.len-i-end.ensures),
  missing (g.W.Trees.forest c.args.trees.now) (g.I.Items.bounds_of c.args.items.now) c.args.marks.now c.check_trees.new.marks c.in-Ok.field-0 c.loop-i.i c.requires.unmarked c.in-Ok.ensures.0 c.if-not-marks-i.true,
)

pub returns : goal.returns
returns g c =
    fitting (g.W.Trees.forest c.args.trees.now) (g.I.Items.count c.args.items.now) (g.I.Items.bounds_of c.args.items.now) c.args.marks.now c.check_trees.new.marks c.in-Ok.field-0 c.requires.marks c.requires.unmarked c.in-Ok.ensures.0
    (λ i lt. c.loop-i.invariant i (omega (arith, lt, c.loop-i-test.false, c.len-i-end.ensures)))

pub check_trees-requires-clause-marks : goal.check_trees-requires-clause-marks
check_trees-requires-clause-marks g c = c.requires.marks

pub loop-i-init : goal.loop-i-init
loop-i-init g c = below_none _

pub loop-i-preserved : goal.loop-i-preserved
loop-i-preserved g c = below_more _ _ c.loop-i.invariant c.if-not-marks-i.false
