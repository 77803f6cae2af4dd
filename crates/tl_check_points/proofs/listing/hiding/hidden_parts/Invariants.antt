use Rattle.tl_check_points.specs.Listing.Hidden.{IsMarked}
use Rattle.tl_check_points.specs.Listing.Keeping.Hiding.{ArePartsBefore}
use Rattle.tl_check_points.proofs.listing.hiding.hidden_parts.Given as goal

-- the chains so far are put together
abbrev pub invariant-loop-c : goal.invariant-loop-c
invariant-loop-c l = ArePartsBefore (IsMarked l.marks) l.map l.c l.points.items l.rows.items l.sides
