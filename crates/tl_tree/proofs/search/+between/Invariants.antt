use Rattle.std.proofs.Common.{◌+◌, ◌*◌}
use Rattle.tl_tree_index.specs.Trees.{node_count}
use Rattle.tl_tree.specs.Keeping.Walking.{size_of}
use Rattle.tl_tree.proofs.search.+between.Given as goal

-- four times the nodes of both trees
abbrev pub decreases-search_two : goal.decreases-search_two
decreases-search_two g l =
    4 * (size_of g.W.Trees.forest l.tree.now.below + size_of g.W.Trees.forest l.other.now.below)

-- one more than that
abbrev pub decreases-search_if_marked : goal.decreases-search_if_marked
decreases-search_if_marked g l =
    4 * (size_of g.W.Trees.forest l.tree.now.below + size_of g.W.Trees.forest l.other.now.below) + 1

-- two more than four times the nodes of the tree and of the others
abbrev pub decreases-search_marked : goal.decreases-search_marked
decreases-search_marked g l =
    4 * (size_of g.W.Trees.forest l.tree.now.below + node_count (g.W.Trees.forest l.others.now)) + 2

-- three more
abbrev pub decreases-search_between : goal.decreases-search_between
decreases-search_between g l =
    4 * (size_of g.W.Trees.forest l.tree.now.below + node_count (g.W.Trees.forest l.others.now)) + 3
