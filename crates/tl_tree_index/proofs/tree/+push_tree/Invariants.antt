use Rattle.std.proofs.Common.{length, ◌≡◌, ◌-◌, ◌*◌, ◌≤◌, List, ◌++◌, [], ◌∷◌}
use Rattle.tl_geom.specs.declared.rect.Rect.{Rect}
use Rattle.tl_tree_index.specs.declared.node.TreeNode.TheVariants.{Inner}
use Rattle.tl_tree_index.specs.declared.order.Placed.{Placed}
use Rattle.tl_tree_index.specs.Lists.{items_in, AreItemsBelow}
use Rattle.tl_tree_index.specs.Keeping.Nodes.{Push}
use Rattle.tl_tree_index.proofs.Sizes.{greatest_of, least_of}
use Rattle.tl_tree_index.proofs.tree.+push_tree.Given as goal

abbrev pub decreases-push_tree : goal.decreases-push_tree
decreases-push_tree g l = length l.part.now

-- the first parts are pushed; each of the others can have as many items as the least, four at least, and none need have more
-- than the greatest
abbrev pub invariant-loop-pushed : goal.invariant-loop-pushed
invariant-loop-pushed g l =
    record {
      done : List Placed;
      room : Rect;
      split : l.part ≡ done ++ l.rest;
      push : Push (g.I.Items.bounds_of l.items) l.pushed (least_of (length l.part) l.children) (greatest_of (length l.part) l.children)
          (l.fn.nodes.items ++ Inner room l.children ∷ []) l.nodes.items (items_in done) l.rect;
      most : length l.rest ≤ (l.children - l.pushed) * greatest_of (length l.part) l.children;
      least : least_of (length l.part) l.children * (l.children - l.pushed) ≤ length l.rest;
      four : 4 * (l.children - l.pushed) ≤ length l.rest;
      gone : l.pushed ≤ length done;
      known : AreItemsBelow (g.I.Items.count l.items) l.rest;
    }
