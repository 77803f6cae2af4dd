use Rattle.std.proofs.Common.{length, take}
use Rattle.tl_check_inside.specs.Keeping.Tallies.{AreClear}
use Rattle.tl_check_points.specs.Listing.Hidden.{IsMarked}
use Rattle.tl_check_points.specs.Listing.Keeping.Parts.{AreFaultsIn, IsOfAny, AndSettled}
use Rattle.tl_check_points.proofs.listing.among.list_each.Given as goal

-- the faults of the polygons so far are listed, and nothing is counted
abbrev pub invariant-loop-place : goal.invariant-loop-place
invariant-loop-place g l = record {
  found : AreFaultsIn l.map (AndSettled (IsMarked l.marks) (IsOfAny (take l.place l.polygons))) l.found.items;
  clear : AreClear (length l.map.polygons) l.room.near.items l.room.far.items;
}
