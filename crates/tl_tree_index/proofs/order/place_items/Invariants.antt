use Rattle.std.proofs.Common.{◌≡◌, length}
use Rattle.tl_tree_index.specs.Lists.{up, items_in, AreItemsBelow}
use Rattle.tl_tree_index.proofs.order.place_items.Given as goal

abbrev pub invariant-loop-item : goal.invariant-loop-item
invariant-loop-item g l =
    record {
      all : items_in l.placed.items ≡ up l.item;
      known : AreItemsBelow (g.I.Items.count l.items) l.placed.items;
      long : length l.placed.items ≡ l.item;
    }
