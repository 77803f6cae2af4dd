-- Trees of rectangles, and the trees that a list of nodes in preorder spells.
use Rattle.std.specs.Prelude.{ℕ, zero, suc, ◌+◌, max, List, [], ◌∷◌, ◌++◌}
use Rattle.tl_geom.specs.declared.rect.Rect.{Rect}
use Rattle.tl_tree_index.specs.declared.node.TreeNode.{TreeNode}
use Rattle.tl_tree_index.specs.declared.node.TreeNode.TheVariants.{Inner, Leaf}

-- some trees in order: none; or a first one, which is a leaf with its rectangle and items or an inner node with its
-- rectangle and its children, and then the others
pub data Forest : Type 0 where
  none : Forest
  leaf : (rect : Rect) (items : List ℕ) (others : Forest) → Forest
  inner : (rect : Rect) (children others : Forest) → Forest

-- the number of nodes
abbrev pub node_count : Forest → ℕ
node_count none = 0
node_count (leaf r xs others) = 1 + node_count others
node_count (inner r children others) = 1 + node_count children + node_count others

-- the depth of the deepest node, where a root has 1
abbrev pub depth : Forest → ℕ
depth none = 0
depth (leaf r xs others) = max 1 (depth others)
depth (inner r children others) = max (1 + depth children) (depth others)

-- the items in the leaves, in order
abbrev pub leaf_items : Forest → List ℕ
leaf_items none = []
leaf_items (leaf r xs others) = xs ++ leaf_items others
leaf_items (inner r children others) = leaf_items children ++ leaf_items others

-- the first k trees
abbrev pub first_trees : ℕ → Forest → Forest
first_trees zero f = none
first_trees (suc k) none = none
first_trees (suc k) (leaf r xs others) = leaf r xs (first_trees k others)
first_trees (suc k) (inner r children others) = inner r children (first_trees k others)

-- the trees behind the first k
abbrev pub other_trees : ℕ → Forest → Forest
other_trees zero f = f
other_trees (suc k) none = none
other_trees (suc k) (leaf r xs others) = other_trees k others
other_trees (suc k) (inner r children others) = other_trees k others

-- the trees that a list of nodes spells: a leaf is a tree, and an inner node takes as many of the trees behind it as it
-- has children
abbrev pub trees_of : List TreeNode → Forest
trees_of [] = none
trees_of (Leaf r v ∷ nodes) = leaf r v.items (trees_of nodes)
trees_of (Inner r k ∷ nodes) = inner r (first_trees k (trees_of nodes)) (other_trees k (trees_of nodes))

-- the first tree that the nodes spell: all of them, where they are a whole tree in preorder
abbrev pub tree_of : List TreeNode → Forest
tree_of nodes = first_trees 1 (trees_of nodes)
