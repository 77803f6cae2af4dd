use Rattle.std.proofs.Common.{◌≡◌, All, length}
use Rattle.tl_check_inside.specs.Keeping.Tallies.{AreClear}
use Rattle.tl_check_points.specs.Counts.{AreCountsAt}
use Rattle.tl_check_points.specs.Keeping.Balances.{AreAmong}
use Rattle.tl_check_points.specs.Keeping.Ways.{TellGap}
use Rattle.tl_check_points.proofs.counts.visit_each.Given as goal

-- what is written tells of the gap that was come to, nothing is counted, and what is known is so
abbrev pub invariant-loop-place : goal.invariant-loop-place
invariant-loop-place l = record {
  told : TellGap (length l.map.polygons) l.gaps l.gap l.journal.items;
  among : All (AreAmong (length l.map.polygons)) l.journal.items;
  clear : AreClear (length l.map.polygons) l.near l.far;
  long : length l.counts ≡ length l.sites;
  counts : AreCountsAt l.map.chains l.sites l.counts;
}
