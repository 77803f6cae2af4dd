use Rattle.tl_check_planar.specs.Listing.Keeping.Pairing.{AreConflictsOf}
use Rattle.tl_check_planar.proofs.listing.conflicts.conflicts_of.Given as goal

-- the conflicts of the pairs so far
abbrev pub invariant-loop-place : goal.invariant-loop-place
invariant-loop-place g l = AreConflictsOf (g.I.Items.count l.items) (g.I.Items.tells l.items) l.place l.pairs l.found.items
