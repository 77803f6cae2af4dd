use Rattle.std.proofs.Common.{◌≡◌, take}
use Rattle.tl_check_points.proofs.listing.hiding.polygons_of.Given as goal

-- the polygons so far are listed
abbrev pub invariant-loop-p : goal.invariant-loop-p
invariant-loop-p l = l.polygons.items ≡ take l.p l.map.polygons
