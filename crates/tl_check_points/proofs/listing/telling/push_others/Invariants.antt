use Rattle.std.proofs.Common.{take}
use Rattle.tl_check_points.specs.Listing.Keeping.Parts.{HasRow}
use Rattle.tl_check_points.proofs.listing.telling.push_others.Given as goal

-- the polygons so far are told
abbrev pub invariant-loop-place : goal.invariant-loop-place
invariant-loop-place l = HasRow l.map l.p 2 (take l.place l.odd) l.fn.found.items l.found.items
