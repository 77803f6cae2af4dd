use Rattle.std.proofs.Common.{take}
use Rattle.tl_check_points.specs.Listing.Keeping.Odd.{AreOddOf}
use Rattle.tl_check_points.proofs.listing.odd.list_odd_of.Given as goal

-- those of the flanks so far are listed
abbrev pub invariant-loop-place : goal.invariant-loop-place
invariant-loop-place l = AreOddOf l.near l.far l.own (take l.place l.crossed) l.odd.items
