-- Which lists of nodes are a whole tree in preorder.
use Rattle.std.specs.Prelude.{◌≡◌, ℕ, suc, ◌≤◌, ◌⊎◌, List, [], ◌∷◌, ◌++◌}
use Rattle.arrayvec.specs.ArrayVec.{ArrayVec}
use Rattle.tl_geom.specs.declared.rect.Rect.{Rect}
use Rattle.tl_tree_index.specs.declared.node.TreeNode.{TreeNode}
use Rattle.tl_tree_index.specs.declared.node.TreeNode.TheVariants.{Inner, Leaf}

-- the nodes are p whole trees, one after the other: a leaf is a tree, and so is an inner node with 2 to 8 children that
-- is followed by that many trees
pub data AreTrees : List TreeNode → ℕ → Type 0 where
  no_tree : AreTrees [] 0
  leaf_first :
      (r : Rect) (v : ArrayVec ℕ) (nodes : List TreeNode) (p : ℕ) →
      AreTrees nodes p → AreTrees (Leaf r v ∷ nodes) (suc p)
  inner_first :
      (r : Rect) (k : ℕ) (children nodes : List TreeNode) (p : ℕ) → 2 ≤ k → k ≤ 8 →
      AreTrees children k → AreTrees nodes p → AreTrees (Inner r k ∷ (children ++ nodes)) (suc p)

-- the nodes are one whole tree, or there is none
abbrev pub IsPreorder : List TreeNode → Type 0
IsPreorder nodes = (nodes ≡ []) ⊎ AreTrees nodes 1
