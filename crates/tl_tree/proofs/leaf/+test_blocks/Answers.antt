use Rattle.std.proofs.Common.{◌≡◌, ap, sym, subst, List, ℕ, ◌++◌, arith}
use Rattle.tl_tree_index.specs.Fits.{AreBelow}
use Rattle.tl_tree_index.specs.Pairs.{cross_sum, AllCross, AreToldApart}
use Rattle.tl_tree.proofs.Leaving.{stops, goes, leaves_same, leaves_both}
use Rattle.tl_tree.proofs.PairLemmas.{cross-append_right, all_cross-join}
use Rattle.tl_tree.proofs.Steps.{below-parts}
use Rattle.tl_tree.proofs.leaf.+test_blocks.Goals as goal

pub returns-then-not-test_rows : goal.returns-then-not-test_rows
returns-then-not-test_rows g t c =
    let xs = c.args.some.now in
    stops _ _ _ _ _ _ _ _ _ _ c.test_rows-2.ensures c.if-not-test_rows.true
    (λ f s u h. omega (arith, h, ap (cross_sum f xs) c.split_at.ensures.by_index.0, cross-append_right f xs (c.split_at.result.0).now (c.split_at.result.1).now))

pub returns : goal.returns
returns g t c =
    let xs = c.args.some.now in
    let n = g.I.Items.count c.args.items.now in
    let tells = g.I.Items.tells c.args.items.now in
    let b = g.I.Items.bounds_of c.args.items.now in
    let ys = (c.split_at.result.0).now in
    let zs = (c.split_at.result.1).now in
    let e : c.args.others.now ≡ ys ++ zs = c.split_at.ensures.by_index.0 in
    let P : List ℕ → Type 0 = AllCross (AreToldApart tells) xs in
    leaves_same n b tells _ _ _ _ _ _ c.test_blocks.result
    (λ f s. omega (arith, cross-append_right f xs ys zs, ap (cross_sum f xs) e))
    (λ h. subst P (sym e) (all_cross-join (AreToldApart tells) xs ys zs h.0 h.1))
    (leaves_both n b tells _ _ _ _ _ _ _ c.test_blocks.result (goes _ _ _ _ _ _ _ _ c.test_rows-2.ensures c.if-not-test_rows.false) c.test_blocks.ensures)

pub test_rows-requires-clause-some : goal.test_rows-requires-clause-some
test_rows-requires-clause-some g t c = c.requires.some

pub test_rows-requires-clause-few : goal.test_rows-requires-clause-few
test_rows-requires-clause-few g t c = c.requires.few

pub test_rows-requires-clause-bounds : goal.test_rows-requires-clause-bounds
test_rows-requires-clause-bounds g t c = c.requires.bounds

pub test_rows-requires-clause-others : goal.test_rows-requires-clause-others
test_rows-requires-clause-others g t c = c.requires.others

pub test_rows-requires-2-clause-some : goal.test_rows-requires-2-clause-some
test_rows-requires-2-clause-some g t c = c.requires.some

pub test_rows-requires-2-clause-few : goal.test_rows-requires-2-clause-few
test_rows-requires-2-clause-few g t c = c.requires.few

pub test_rows-requires-2-clause-bounds : goal.test_rows-requires-2-clause-bounds
test_rows-requires-2-clause-bounds g t c = c.requires.bounds

pub returns-then-others-le8 : goal.returns-then-others-le8
returns-then-others-le8 g t c = c.test_rows.ensures

pub test_rows-requires-clause-nothing_found : goal.test_rows-requires-clause-nothing_found
test_rows-requires-clause-nothing_found g t c = c.requires.nothing_found

pub test_rows-requires-2-clause-nothing_found : goal.test_rows-requires-2-clause-nothing_found
test_rows-requires-2-clause-nothing_found g t c = c.requires.nothing_found

pub test_rows-requires-clause-few_others : goal.test_rows-requires-clause-few_others
test_rows-requires-clause-few_others g t c = c.if-others-le8.true

pub test_rows-requires-2-clause-few_others : goal.test_rows-requires-2-clause-few_others
test_rows-requires-2-clause-few_others g t c = let size = c.split_at.ensures.front_len in omega (arith, size)

pub test_rows-requires-2-clause-others : goal.test_rows-requires-2-clause-others
test_rows-requires-2-clause-others g t c =
    let P : List ℕ → Type 0 = AreBelow (g.I.Items.count c.args.items.now) in
    (below-parts _ (c.split_at.result.0).now (c.split_at.result.1).now (subst P c.split_at.ensures.by_index.0 c.requires.others)).0

pub test_blocks-requires : goal.test_blocks-requires
test_blocks-requires g t c κs within =
    let P : List ℕ → Type 0 = AreBelow (g.I.Items.count c.args.items.now) in
    let parts = below-parts _ (c.split_at.result.0).now (c.split_at.result.1).now (subst P c.split_at.ensures.by_index.0 c.requires.others) in
    (omega (arith, c.split_at.ensures.front_len, c.split_at.ensures.back_len, c.if-others-le8.false), (within.0, (within.1, (c.requires.some, (c.requires.few, (c.requires.bounds, (parts.1, (goes _ _ _ _ _ _ _ _ c.test_rows-2.ensures c.if-not-test_rows.false).nothing_found)))))))
