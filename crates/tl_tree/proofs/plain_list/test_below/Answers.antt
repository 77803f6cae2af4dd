use Rattle.std.proofs.Common.{◌+◌, arith}
use Rattle.tl_tree_index.specs.Pairs.{meeting, AreToldApart}
use Rattle.tl_tree.proofs.Leaving.{enough_all, enough_both, stops_after, goes}
use Rattle.tl_tree.proofs.Indices.{row-0, row-more, row-grows, all_row-0, all_row-more}
use Rattle.tl_tree.proofs.plain_list.test_below.Goals as goal

pub loop-i-init : goal.loop-i-init
loop-i-init g c = record {
  left = omega (arith, row-0 (meeting (g.I.Items.bounds_of c.args.items.now)) c.args.j);
  spent = enough_all (λ f. omega arith);
  free = all_row-0 (AreToldApart (g.I.Items.tells c.args.items.now)) c.args.j;
  nothing_found = c.requires.nothing_found;
}

pub returns-then-not-test_pair : goal.returns-then-not-test_pair
returns-then-not-test_pair g c =
    stops_after _ _ _ _ _ _ _ _ _ _ c.test_pair.ensures c.if-not-test_pair.true c.loop-i.invariant.spent
    (λ f s p u h. omega (arith, h, p, row-more f c.args.j c.loop-i.i, row-grows f c.args.j (c.loop-i.i + 1) c.args.j (omega arith)))

pub loop-i-preserved : goal.loop-i-preserved
loop-i-preserved g c =
    let s = row-more (meeting (g.I.Items.bounds_of c.args.items.now)) c.args.j c.loop-i.i in
    let k = goes _ _ _ _ _ _ _ _ c.test_pair.ensures c.if-not-test_pair.false in
    record {
      left = omega (arith, s, k.left, c.loop-i.invariant.left);
      spent = enough_both k.spent c.loop-i.invariant.spent (λ f s p q. omega (arith, p, q, row-more f c.args.j c.loop-i.i));
      free = all_row-more (AreToldApart (g.I.Items.tells c.args.items.now)) c.args.j c.loop-i.i k.free c.loop-i.invariant.free;
      nothing_found = k.nothing_found;
    }

pub test_pair-requires-clause-nothing_found : goal.test_pair-requires-clause-nothing_found
test_pair-requires-clause-nothing_found g c = c.loop-i.invariant.nothing_found

pub test_pair-requires-clause-first : goal.test_pair-requires-clause-first
test_pair-requires-clause-first g c = c.requires.known
