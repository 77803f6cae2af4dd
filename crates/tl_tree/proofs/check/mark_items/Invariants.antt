use Rattle.std.proofs.Common.{take}
use Rattle.tl_tree_index.specs.Keeping.Marked.{AreMarked}
use Rattle.tl_tree.proofs.check.mark_items.Given as goal

-- the items so far are marked
abbrev pub invariant-loop-i : goal.invariant-loop-i
invariant-loop-i l = AreMarked l.initial.marks (take l.i-index l.some) l.marks
