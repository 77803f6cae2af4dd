use Rattle.tl_check_points.proofs.ListingLemmas.Marking.{AreKeptBefore}
use Rattle.tl_check_points.proofs.listing.marks.list_unmarked.Given as goal

-- of the numbers so far those that aren't marked are kept
abbrev pub invariant-loop-place : goal.invariant-loop-place
invariant-loop-place l = AreKeptBefore l.marks l.numbers l.place l.kept.items
