use Rattle.std.proofs.Common.{◌≡◌, ℕ, ◌+◌, refl, ap, subst, arith}
use Rattle.tl_tree_index.specs.Pairs.{meeting, pair_sum, AreToldApart, AllPairs, indices}
use Rattle.tl_tree.proofs.Finishing.{clear, answer-stopped, answer-clear}
use Rattle.tl_tree.proofs.Leaving.{enough_all, enough_both, stops_after, goes}
use Rattle.tl_tree.proofs.Indices.{pair-0, pair-more, pair-grows, all_pairs-0, all_pairs-more}
use Rattle.tl_tree.proofs.plain_list.PlainListBoxIndex.first_conflict.Goals as goal

pub loop-j-init : goal.loop-j-init
loop-j-init g c = record {
  left = omega (arith, pair-0 (meeting (g.I.Items.bounds_of c.args.items.now)));
  spent = enough_all (λ f. omega arith);
  free = all_pairs-0 (AreToldApart (g.I.Items.tells c.args.items.now));
  nothing_found = refl;
}

pub returns-then-not-test_below : goal.returns-then-not-test_below
returns-then-not-test_below g c =
    let n = g.I.Items.count c.args.items.now in
    let b = g.I.Items.bounds_of c.args.items.now in
    let tells = g.I.Items.tells c.args.items.now in
    rw c.answer.ensures (answer-stopped n b tells c.args.budget _ (stops_after _ _ _ _ _ _ _ _ _ _ c.test_below.ensures c.if-not-test_below.true c.loop-j.invariant.spent
    (λ f s p u h. omega (arith, h, p, pair-more f c.loop-j.j, pair-grows f (c.loop-j.j + 1) n (omega arith)))))

pub loop-j-preserved : goal.loop-j-preserved
loop-j-preserved g c =
    let s = pair-more (meeting (g.I.Items.bounds_of c.args.items.now)) c.loop-j.j in
    let k = goes _ _ _ _ _ _ _ _ c.test_below.ensures c.if-not-test_below.false in
    record {
      left = omega (arith, s, k.left, c.loop-j.invariant.left);
      spent = enough_both k.spent c.loop-j.invariant.spent (λ f s p q. omega (arith, p, q, pair-more f c.loop-j.j));
      free = all_pairs-more (AreToldApart (g.I.Items.tells c.args.items.now)) c.loop-j.j k.free c.loop-j.invariant.free;
      nothing_found = k.nothing_found;
    }

pub returns : goal.returns
returns g c =
    let n = g.I.Items.count c.args.items.now in
    let b = g.I.Items.bounds_of c.args.items.now in
    let tells = g.I.Items.tells c.args.items.now in
    let P : ℕ → Type 0 = λ k. AllPairs (AreToldApart tells) (indices k) in
    let e : c.loop-j.j ≡ n = omega (arith, c.self.view_is, c.requires) in
    let h = clear n b tells c.args.budget (subst P e c.loop-j.invariant.free) (omega (arith, c.loop-j.invariant.left, ap (λ k. pair_sum (meeting b) (indices k)) e)) in
    rw c.answer-2.ensures (answer-clear n b tells c.args.budget _ c.loop-j.invariant.nothing_found h)
