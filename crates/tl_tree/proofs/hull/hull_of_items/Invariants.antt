use Rattle.std.proofs.Common.{take}
use Rattle.tl_tree.specs.Keeping.Checking.{IsHull}
use Rattle.tl_tree.proofs.hull.hull_of_items.Given as goal

-- the hull of the items so far
abbrev pub invariant-loop-i : goal.invariant-loop-i
invariant-loop-i g l = IsHull (g.I.Items.bounds_of l.items) (take l.i-index l.some) l.hull
