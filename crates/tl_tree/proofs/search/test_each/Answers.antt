use Rattle.std.proofs.Common.{arith}
use Rattle.tl_tree_index.specs.Pairs.{meeting, AreToldApart}
use Rattle.tl_tree.proofs.Leaving.{enough_all, enough_from, enough_both, stops_after, goes}
use Rattle.tl_tree.proofs.Steps.{row-step, row-end, all_row-step, all_row-end, below-at}
use Rattle.tl_tree.proofs.search.test_each.Goals as goal

pub test_pair-requires-clause-second : goal.test_pair-requires-clause-second
test_pair-requires-clause-second g c = below-at _ _ c.loop-j.j-index c.loop-j-test.true c.requires.others

pub loop-j-init : goal.loop-j-init
loop-j-init g c = record { left = omega arith; spent = enough_all (λ f. omega arith); free = λ h. h; nothing_found = c.requires.nothing_found }

pub returns-then-not-test_pair : goal.returns-then-not-test_pair
returns-then-not-test_pair g c =
    stops_after _ _ _ _ _ _ _ _ _ _ c.test_pair.ensures c.if-not-test_pair.true c.loop-j.invariant.spent (λ f s p e h. omega (arith, h, p, row-step f c.args.i c.args.others.now c.loop-j.j-index c.loop-j-test.true))

pub loop-j-preserved : goal.loop-j-preserved
loop-j-preserved g c =
    let s = row-step (meeting (g.I.Items.bounds_of c.args.items.now)) c.args.i c.args.others.now c.loop-j.j-index c.loop-j-test.true in
    let k = goes _ _ _ _ _ _ _ _ c.test_pair.ensures c.if-not-test_pair.false in
    record {
      left = omega (arith, s, k.left, c.loop-j.invariant.left);
      spent = enough_both k.spent c.loop-j.invariant.spent (λ f s p q. omega (arith, p, q, row-step f c.args.i c.args.others.now c.loop-j.j-index c.loop-j-test.true));
      free = λ h. c.loop-j.invariant.free (all_row-step (AreToldApart (g.I.Items.tells c.args.items.now)) c.args.i c.args.others.now c.loop-j.j-index c.loop-j-test.true k.free h);
      nothing_found = k.nothing_found;
    }

pub returns : goal.returns
returns g c =
    let s = row-end (meeting (g.I.Items.bounds_of c.args.items.now)) c.args.i c.args.others.now c.loop-j.j-index c.loop-j-test.false in
    record { left = omega (arith, s, c.loop-j.invariant.left); spent = enough_from c.loop-j.invariant.spent (λ f s p. omega (arith, p, row-end f c.args.i c.args.others.now c.loop-j.j-index c.loop-j-test.false)); free = c.loop-j.invariant.free (all_row-end (AreToldApart (g.I.Items.tells c.args.items.now)) c.args.i c.args.others.now c.loop-j.j-index c.loop-j-test.false); nothing_found = c.loop-j.invariant.nothing_found }
