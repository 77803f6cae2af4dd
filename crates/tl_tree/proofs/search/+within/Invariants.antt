use Rattle.std.proofs.Common.{◌+◌, ◌*◌}
use Rattle.tl_tree_index.specs.Trees.{node_count}
use Rattle.tl_tree.specs.Keeping.Walking.{size_of}
use Rattle.tl_tree.proofs.search.+within.Given as goal

-- four times the nodes of the tree
abbrev pub decreases-search_one : goal.decreases-search_one
decreases-search_one g l = 4 * size_of g.W.Trees.forest l.tree.now.below

-- one more than that
abbrev pub decreases-search_unlisted : goal.decreases-search_unlisted
decreases-search_unlisted g l = 4 * size_of g.W.Trees.forest l.tree.now.below + 1

-- two more
abbrev pub decreases-search_among : goal.decreases-search_among
decreases-search_among g l = 4 * size_of g.W.Trees.forest l.tree.now.below + 2

-- three more than four times the nodes of the trees
abbrev pub decreases-search_within : goal.decreases-search_within
decreases-search_within g l = 4 * node_count (g.W.Trees.forest l.trees.now) + 3
