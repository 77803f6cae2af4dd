use Rattle.std.proofs.Common.{◌≡◌, take}
use Rattle.tl_tree_index.specs.Fits.{CoversAll}
use Rattle.tl_tree_index.specs.Lists.{items_in}
use Rattle.tl_tree_index.proofs.tree.push_leaf.Given as goal

abbrev pub invariant-loop-placed : goal.invariant-loop-placed
invariant-loop-placed g l =
    record {
      held : l.held.items ≡ items_in (take l.placed-index l.part);
      covered : CoversAll (g.I.Items.bounds_of l.items) l.rect (items_in (take l.placed-index l.part));
    }
