use Rattle.std.proofs.Common.{arith}
use Rattle.tl_tree_index.specs.Pairs.{meeting, AreToldApart}
use Rattle.tl_tree.proofs.Leaving.{enough_all, enough_from, enough_both, stops_after, goes}
use Rattle.tl_tree.proofs.Steps.{pair-step, pair-end, all_pairs-step, all_pairs-end}
use Rattle.tl_tree.proofs.search.test_all_pairs.Goals as goal

pub loop-k-init : goal.loop-k-init
loop-k-init g c = record { left = omega arith; spent = enough_all (λ f. omega arith); free = λ h. h; nothing_found = c.requires.nothing_found }

pub returns-then-not-test_behind : goal.returns-then-not-test_behind
returns-then-not-test_behind g c =
    stops_after _ _ _ _ _ _ _ _ _ _ c.test_behind.ensures c.if-not-test_behind.true c.loop-k.invariant.spent (λ f s p e h. omega (arith, h, p, pair-step f c.args.some.now c.loop-k.k c.loop-k-test.true))

pub loop-k-preserved : goal.loop-k-preserved
loop-k-preserved g c =
    let s = pair-step (meeting (g.I.Items.bounds_of c.args.items.now)) c.args.some.now c.loop-k.k c.loop-k-test.true in
    let h = goes _ _ _ _ _ _ _ _ c.test_behind.ensures c.if-not-test_behind.false in
    record {
      left = omega (arith, s, h.left, c.loop-k.invariant.left);
      spent = enough_both h.spent c.loop-k.invariant.spent (λ f s p q. omega (arith, p, q, pair-step f c.args.some.now c.loop-k.k c.loop-k-test.true));
      free = λ p. c.loop-k.invariant.free (all_pairs-step (AreToldApart (g.I.Items.tells c.args.items.now)) c.args.some.now c.loop-k.k c.loop-k-test.true h.free p);
      nothing_found = h.nothing_found;
    }

pub returns : goal.returns
returns g c =
    let s = pair-end (meeting (g.I.Items.bounds_of c.args.items.now)) c.args.some.now c.loop-k.k c.loop-k-test.false in
    record { left = omega (arith, s, c.loop-k.invariant.left); spent = enough_from c.loop-k.invariant.spent (λ f s p. omega (arith, p, pair-end f c.args.some.now c.loop-k.k c.loop-k-test.false)); free = c.loop-k.invariant.free (all_pairs-end (AreToldApart (g.I.Items.tells c.args.items.now)) c.args.some.now c.loop-k.k c.loop-k-test.false); nothing_found = c.loop-k.invariant.nothing_found }
