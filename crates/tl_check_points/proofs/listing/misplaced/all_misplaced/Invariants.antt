use Rattle.std.proofs.Common.{[], length}
use Rattle.tl_check_inside.specs.Keeping.Tallies.{AreClear}
use Rattle.tl_check_points.specs.Listing.Hidden.{IsMarked}
use Rattle.tl_check_points.specs.Listing.Keeping.Parts.{AreFaultsIn, IsBefore, AndSettled}
use Rattle.tl_check_points.proofs.listing.misplaced.all_misplaced.Given as goal

-- the faults of the polygons so far are listed, and nothing is counted
abbrev pub invariant-loop-p : goal.invariant-loop-p
invariant-loop-p g l = record {
  found : AreFaultsIn l.map (AndSettled (IsMarked []) (IsBefore l.p)) l.found.items;
  clear : AreClear (length l.map.polygons) l.room.near.items l.room.far.items;
}
