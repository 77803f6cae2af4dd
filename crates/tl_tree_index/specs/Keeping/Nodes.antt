-- Nodes of trees, pushed behind others.
use Rattle.std.specs.Prelude.{◌≡◌, ℕ, suc, ◌+◌, ◌*◌, ◌^◌, ◌<◌, ◌≤◌, List, ◌++◌, length, All}
use Rattle.tl_geom.specs.declared.rect.Rect.{Rect}
use Rattle.tl_tree_index.specs.declared.node.TreeNode.{TreeNode}
use Rattle.tl_tree_index.specs.Fits.{CoversAll, CoversBelow}
use Rattle.tl_tree_index.specs.Preorder.{AreTrees, IsPreorder}
use Rattle.tl_tree_index.specs.Trees.{depth, leaf_items, trees_of, tree_of}
use Rattle.tl_tree_index.specs.Packed.{IsFilled, IsShallow, IsEvenlySplit, AreSized, tree_count}

-- how many items a tree of this depth has at most
unfoldable pub most_items : ℕ → ℕ
most_items d = 8 ^ d

-- new is old with p whole trees behind it, over these items, around which the rectangle is; each of the trees has from least
-- to most items
pub record Push (bounds : ℕ → Rect) (p least most : ℕ) (old new : List TreeNode) (items : List ℕ) (around : Rect) : Type 0 where
  pub pushed : List TreeNode
  pub appended : new ≡ old ++ pushed
  pub trees : AreTrees pushed p
  pub nodes : All IsFilled pushed
  pub over : leaf_items (trees_of pushed) ≡ items
  pub covers : CoversBelow bounds (trees_of pushed)
  pub covered : CoversAll bounds around items
  pub shallow : (d : ℕ) → most ≤ most_items (suc d) → depth (trees_of pushed) ≤ suc d
  pub few : 4 ≤ least → 2 * (length pushed + p) ≤ length items
  pub leaves : most ≤ 8 → length pushed ≡ p
  pub split : IsEvenlySplit (trees_of pushed)
  pub sized : AreSized least most (trees_of pushed)
  pub parts : tree_count (trees_of pushed) ≡ p

-- the nodes of a tree over these items: a whole tree in preorder, or none; each rectangle is around what is below it, and the
-- tree is no deeper than its items need
pub record AreNodesOver (bounds : ℕ → Rect) (nodes : List TreeNode) (items : List ℕ) : Type 0 where
  pub whole : IsPreorder nodes
  pub counted : length nodes < 2 ^ 32
  pub each : All IsFilled nodes
  pub over : leaf_items (tree_of nodes) ≡ items
  pub covers : CoversBelow bounds (tree_of nodes)
  pub shallow : IsShallow (length items) (tree_of nodes)
  pub levels : depth (tree_of nodes) ≤ 11
  pub split : IsEvenlySplit (tree_of nodes)
