use Rattle.tl_check_planar.specs.Listing.Keeping.Telling.{AreMeetsOf}
use Rattle.tl_check_planar.proofs.listing.meets.meets_of.Given as goal

-- the meets of the conflicts so far
abbrev pub invariant-loop-place : goal.invariant-loop-place
invariant-loop-place l = AreMeetsOf l.map.chains l.place l.conflicts l.meets.items
