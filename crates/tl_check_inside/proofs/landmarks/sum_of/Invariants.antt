use Rattle.std.proofs.Common.{◌≡◌, ◌≤◌, ◌*◌, take}
use Rattle.tl_check_inside.specs.Keeping.Sums.{sum_at}
use Rattle.tl_check_inside.proofs.landmarks.sum_of.Given as goal

-- the counts of those so far are summed up
abbrev pub invariant-loop-place : goal.invariant-loop-place
invariant-loop-place l = record {
  sum : l.sum ≡ sum_at l.counts (take l.place l.polygons);
  room : l.sum ≤ l.place * 18446744073709551616;
}
