-- Nodes over all items.
use Rattle.std.proofs.Common.{ℕ, List, ap, sym, subst, ◌∙◌}
use Rattle.tl_geom.specs.declared.rect.Rect.{Rect}
use Rattle.tl_tree_index.specs.declared.node.TreeNode.{TreeNode}
use Rattle.tl_tree_index.specs.Fits.{Fits, AreBelow}
use Rattle.tl_tree_index.specs.Hits.{times}
use Rattle.tl_tree_index.specs.Trees.{tree_of}
use Rattle.tl_tree_index.specs.declared.order.Placed.{Placed}
use Rattle.tl_tree_index.specs.Lists.{HoldsAll, items_in, AreItemsBelow}
use Rattle.tl_tree_index.specs.Keeping.Nodes.{AreNodesOver}
use Rattle.tl_tree_index.specs.Packed.{IsShallow}
use Rattle.tl_tree_index.proofs.Holding.{once_in, below_in, long_as}

module _ (n : ℕ) (bounds : ℕ → Rect) (nodes : List TreeNode) (order : List Placed) where
  -- nodes over all items fit them
  pub fit : AreNodesOver bounds nodes (items_in order) → HoldsAll n (items_in order) → AreItemsBelow n order → Fits (tree_of nodes) n bounds
  fit h all known =
      record {
        once = λ i l. ap (times i) h.over ∙ once_in n (items_in order) all i l;
        known = subst (AreBelow n) (sym h.over) (below_in n order known);
        covers = h.covers;
      }

  pub shallow : AreNodesOver bounds nodes (items_in order) → HoldsAll n (items_in order) → IsShallow n (tree_of nodes)
  shallow h all = subst (λ k. IsShallow k (tree_of nodes)) (long_as n (items_in order) all) h.shallow
