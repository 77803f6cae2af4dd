use Rattle.std.proofs.Common.{◌≡◌, ℕ, ◌+◌, ◌-◌, ◌<◌, length, sym, subst, ◌∙◌, arith}
use Rattle.std.proofs.lemmas.Result.{err_from_is_err_and}
use Rattle.tl_tree.specs.Keeping.Sizes.{size_at, AreSizesFrom}
use Rattle.tl_tree.proofs.Flat.{size-leaf, size-inner, sizes-before}
use Rattle.tl_tree.proofs.flat_tree.subtree_sizes.Goals as goal
use Rattle.tl_tree.proofs.flat_tree.subtree_sizes.Goals.{in-Leaf, in-Inner}

pub loop-k-preserved : goal.loop-k-preserved
loop-k-preserved c =
    let nodes = c.args.nodes.now in
    let k = c.loop-k.k - 1 in
    let within : k < length nodes = omega (arith, c.loop-k-test.true, c.loop-k.auto.k) in
    let size : c.match-nodes-k.size ≡ size_at nodes k =
    elim c.match-nodes-k.branch [
      | in-Leaf w ↦ w.size-is ∙ sym (size-leaf nodes k _ _ c.index-nodes-k.result within (sym c.index-nodes-k.is ∙ w.in-Leaf.is))
      | in-Inner w ↦ omega (arith, w.size-is, w.trees_end.ensures.value, size-inner nodes k _ _ c.index-nodes-k.result within (sym c.index-nodes-k.is ∙ w.in-Inner.is))
    ] in
    let next : c.loop-k.k ≡ k + 1 = omega (arith, c.loop-k-test.true) in
    let P : ℕ → Type 0 = λ j. AreSizesFrom j nodes c.loop-k.sizes.items in
    sizes-before k nodes c.loop-k.sizes.items c.match-nodes-k.size within size (subst P next c.loop-k.invariant)

pub returns-in_err-sizes : goal.returns-in_err-sizes
returns-in_err-sizes c = let p = err_from_is_err_and c.from_residual.result c.from_residual.ensures.1 in rw p.1 tt
