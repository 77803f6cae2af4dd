use Rattle.std.proofs.Common.{◌≡◌, ◌+◌, drop, arith}
use Rattle.tl_tree_index.specs.Trees.{trees_of, first_trees, node_count}
use Rattle.tl_tree.proofs.Flat.{end-step, end-bound, size-past}
use Rattle.tl_tree.proofs.flat_tree.trees_end.Goals as goal
use Rattle.tl_tree.proofs.flat_tree.trees_end.Goals.{then-at-nodes, else-at-nodes}

pub loop-i-preserved : goal.loop-i-preserved
loop-i-preserved c =
    let nodes = c.args.nodes.now in
    let at = c.loop-i.at in
    let step = end-step nodes c.args.first c.loop-i._i at c.loop-i.invariant.value in
    let value : c.if-at-nodes.at ≡ c.args.first + node_count (first_trees (c.loop-i._i + 1) (trees_of (drop c.args.first nodes))) =
    elim c.if-at-nodes.branch [
      | then-at-nodes w ↦ omega (arith, w.at-is, step, c.loop-i.invariant.value, c.requires.sized.right at (omega (arith, c.loop-i.invariant.value)) w.if-at-nodes.true)
      | else-at-nodes w ↦ omega (arith, w.at-is, step, c.loop-i.invariant.value, size-past nodes at w.if-at-nodes.false)
    ] in
    record { value = value; end = omega (arith, value, end-bound nodes c.args.first (c.loop-i._i + 1) c.requires.within) }
