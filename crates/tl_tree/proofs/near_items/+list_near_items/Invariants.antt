use Rattle.std.proofs.Common.{length}
use Rattle.tl_tree.proofs.near_items.+list_near_items.Given as goal

-- the listed trees
abbrev pub decreases-list_near_items : goal.decreases-list_near_items
decreases-list_near_items g l = length l.trees.now
