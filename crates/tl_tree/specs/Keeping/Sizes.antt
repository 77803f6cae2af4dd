-- The numbers of nodes of subtrees that a flat tree keeps.
use Rattle.std.specs.Prelude.{◌≡◌, ℕ, ◌<◌, ◌≤◌, List, length, drop, slice_index}
use Rattle.tl_tree_index.specs.declared.node.TreeNode.{TreeNode}
use Rattle.tl_tree_index.specs.Trees.{trees_of, first_trees, node_count}

-- the number of nodes of the tree whose root is node k
abbrev pub size_at : List TreeNode → ℕ → ℕ
size_at nodes k = node_count (first_trees 1 (trees_of (drop k nodes)))

-- sizes has a number for each node, which from node k on is that of the tree below it
pub record AreSizesFrom (k : ℕ) (nodes : List TreeNode) (sizes : List ℕ) : Type 0 where
  pub complete : length sizes ≡ length nodes
  pub right : (j : ℕ) → k ≤ j → j < length nodes → slice_index sizes j ≡ size_at nodes j
