use Rattle.tl_check_points.proofs.ListingLemmas.Marking.{AreMarksBefore}
use Rattle.tl_check_points.proofs.listing.marks.marks_of.Given as goal

-- the polygons so far are marked
abbrev pub invariant-loop-place : goal.invariant-loop-place
invariant-loop-place l = AreMarksBefore l.polygons l.place l.marks.items
