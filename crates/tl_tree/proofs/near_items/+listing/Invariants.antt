use Rattle.std.proofs.Common.{◌+◌, ◌*◌}
use Rattle.tl_tree_index.specs.Trees.{node_count}
use Rattle.tl_tree.specs.Keeping.Walking.{size_of}
use Rattle.tl_tree.proofs.near_items.+listing.Given as goal

-- twice the nodes of the tree
abbrev pub decreases-list_tree : goal.decreases-list_tree
decreases-list_tree g l = 2 * size_of g.W.Trees.forest l.tree.now.below

-- one more than twice the nodes of the trees
abbrev pub decreases-list_children : goal.decreases-list_children
decreases-list_children g l = 2 * node_count (g.W.Trees.forest l.trees.now) + 1
