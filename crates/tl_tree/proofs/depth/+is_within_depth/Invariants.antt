use Rattle.tl_tree_index.specs.Trees.{node_count}
use Rattle.tl_tree.proofs.depth.+is_within_depth.Given as goal

-- the nodes of the trees
abbrev pub decreases-is_within_depth : goal.decreases-is_within_depth
decreases-is_within_depth g l = node_count (g.W.Trees.forest l.trees.now)
