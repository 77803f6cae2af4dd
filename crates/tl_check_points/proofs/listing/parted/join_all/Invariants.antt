use Rattle.std.proofs.Common.{◌≡◌, length}
use Rattle.tl_check_points.specs.Counts.{AreCountsAt}
use Rattle.tl_check_points.proofs.listing.parted.join_all.Given as goal

-- what is known so far is so
abbrev pub invariant-loop-place : goal.invariant-loop-place
invariant-loop-place g l = record {
  long : length l.counts ≡ length l.sites;
  known : AreCountsAt l.map.chains l.sites l.counts;
}
