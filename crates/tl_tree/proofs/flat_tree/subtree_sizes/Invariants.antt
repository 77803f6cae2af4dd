use Rattle.tl_tree.specs.Keeping.Sizes.{AreSizesFrom}
use Rattle.tl_tree.proofs.flat_tree.subtree_sizes.Given as goal

-- the sizes are right from node k on
abbrev pub invariant-loop-k : goal.invariant-loop-k
invariant-loop-k l = AreSizesFrom l.k l.nodes l.sizes.items
