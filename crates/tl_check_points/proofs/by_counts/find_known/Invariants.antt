use Rattle.std.proofs.Common.{All, length}
use Rattle.tl_check_inside.specs.Keeping.Strips.{IsSiteOf}
use Rattle.tl_check_inside.specs.Keeping.Tallies.{AreClear}
use Rattle.tl_check_points.proofs.Leaving.{AreLeftUpTo}
use Rattle.tl_check_points.proofs.by_counts.find_known.Given as goal

-- the points so far are placed or left, and nothing is counted
abbrev pub invariant-loop-place : goal.invariant-loop-place
invariant-loop-place l = record {
  left : AreLeftUpTo l.map l.sites l.others.items l.place;
  others : All (IsSiteOf l.map) l.others.items;
  clear : AreClear (length l.map.polygons) l.near l.far;
}
