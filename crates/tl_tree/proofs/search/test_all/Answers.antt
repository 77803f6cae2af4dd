use Rattle.std.proofs.Common.{arith}
use Rattle.tl_tree_index.specs.Pairs.{meeting, AreToldApart}
use Rattle.tl_tree.proofs.Leaving.{enough_all, enough_from, enough_both, stops_after, goes}
use Rattle.tl_tree.proofs.Steps.{cross-step, cross-end, all_cross-step, all_cross-end, below-at}
use Rattle.tl_tree.proofs.search.test_all.Goals as goal

pub test_each-requires-clause-item : goal.test_each-requires-clause-item
test_each-requires-clause-item g c = below-at _ _ c.loop-i.i-index c.loop-i-test.true c.requires.some

pub loop-i-init : goal.loop-i-init
loop-i-init g c = record { left = omega arith; spent = enough_all (λ f. omega arith); free = λ h. h; nothing_found = c.requires.nothing_found }

pub returns-then-not-test_each : goal.returns-then-not-test_each
returns-then-not-test_each g c =
    stops_after _ _ _ _ _ _ _ _ _ _ c.test_each.ensures c.if-not-test_each.true c.loop-i.invariant.spent (λ f s p e h. omega (arith, h, p, cross-step f c.args.some.now c.args.others.now c.loop-i.i-index c.loop-i-test.true))

pub loop-i-preserved : goal.loop-i-preserved
loop-i-preserved g c =
    let s = cross-step (meeting (g.I.Items.bounds_of c.args.items.now)) c.args.some.now c.args.others.now c.loop-i.i-index c.loop-i-test.true in
    let k = goes _ _ _ _ _ _ _ _ c.test_each.ensures c.if-not-test_each.false in
    record {
      left = omega (arith, s, k.left, c.loop-i.invariant.left);
      spent = enough_both k.spent c.loop-i.invariant.spent (λ f s p q. omega (arith, p, q, cross-step f c.args.some.now c.args.others.now c.loop-i.i-index c.loop-i-test.true));
      free = λ h. c.loop-i.invariant.free (all_cross-step (AreToldApart (g.I.Items.tells c.args.items.now)) c.args.some.now c.args.others.now c.loop-i.i-index c.loop-i-test.true k.free h);
      nothing_found = k.nothing_found;
    }

pub returns : goal.returns
returns g c =
    let s = cross-end (meeting (g.I.Items.bounds_of c.args.items.now)) c.args.some.now c.args.others.now c.loop-i.i-index c.loop-i-test.false in
    record { left = omega (arith, s, c.loop-i.invariant.left); spent = enough_from c.loop-i.invariant.spent (λ f s p. omega (arith, p, cross-end f c.args.some.now c.args.others.now c.loop-i.i-index c.loop-i-test.false)); free = c.loop-i.invariant.free (all_cross-end (AreToldApart (g.I.Items.tells c.args.items.now)) c.args.some.now c.args.others.now c.loop-i.i-index c.loop-i-test.false); nothing_found = c.loop-i.invariant.nothing_found }
