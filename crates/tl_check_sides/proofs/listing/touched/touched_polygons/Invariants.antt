use Rattle.tl_check_sides.specs.Listing.Keeping.Named.{AreNamedBefore}
use Rattle.tl_check_sides.proofs.listing.touched.touched_polygons.Given as goal

-- what the disagreements so far name is listed
abbrev pub invariant-loop-place : goal.invariant-loop-place
invariant-loop-place l = AreNamedBefore l.map.chains l.sides l.place l.touched.items
