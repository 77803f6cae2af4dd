use Rattle.std.proofs.Common.{◌+◌, ◌*◌}
use Rattle.tl_tree_index.specs.Trees.{node_count}
use Rattle.tl_tree.specs.Keeping.Walking.{size_of}
use Rattle.tl_tree.proofs.check.+check.Given as goal

-- twice the nodes of the tree
abbrev pub decreases-check_below : goal.decreases-check_below
decreases-check_below g l = 2 * size_of g.W.Trees.forest l.tree.now.below

-- one more than twice the nodes of the trees
abbrev pub decreases-check_trees : goal.decreases-check_trees
decreases-check_trees g l = 2 * node_count (g.W.Trees.forest l.trees.now) + 1
