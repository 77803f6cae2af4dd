use Rattle.std.proofs.Common.{◌+◌, ◌*◌}
use Rattle.tl_tree_index.specs.Trees.{node_count}
use Rattle.tl_tree.proofs.branch.+copy.Given as goal

-- twice the nodes of the trees
abbrev pub decreases-copy_trees : goal.decreases-copy_trees
decreases-copy_trees g l = 2 * node_count (g.W.Trees.forest l.trees.now)

-- one more
abbrev pub decreases-copy_boxed : goal.decreases-copy_boxed
decreases-copy_boxed g l = 2 * node_count (g.W.Trees.forest l.trees.now) + 1
