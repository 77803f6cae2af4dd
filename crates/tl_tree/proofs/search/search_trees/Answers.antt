use Rattle.std.proofs.Common.{refl, arith}
use Rattle.tl_tree_index.specs.Trees.{leaf_items}
use Rattle.tl_tree.proofs.Finishing.{answer-whole, sum-of, free-of}
use Rattle.tl_tree.proofs.PairLemmas.{cross-nil}
use Rattle.tl_tree.proofs.search.search_trees.Goals as goal

pub returns : goal.returns
returns g c =
    let n = g.I.Items.count c.args.items.now in
    let b = g.I.Items.bounds_of c.args.items.now in
    let tells = g.I.Items.tells c.args.items.now in
    let f = g.W.Trees.forest c.args.trees.now in
    let xs = leaf_items f in
    rw c.answer.ensures (answer-whole n b tells c.args.budget _ _ _ _ _ (λ h s. omega (arith, cross-nil h xs, sum-of f n b c.requires h s)) refl (λ h. free-of f n b tells c.requires h.0) c.search_within-goes_on.ensures)
