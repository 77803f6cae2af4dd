use Rattle.std.proofs.Common.{ℕ, ◌-◌, ◌<◌, ◌≤◌, length, get_or}
use Rattle.tl_map_county.proofs.runs.first_not_below.Given as goal

abbrev pub invariant-loop-place : goal.invariant-loop-place
invariant-loop-place g l = record {
  within : l.place ≤ length l.items;
  from : l.start ≤ l.place;
  below : (k : ℕ) (d : g.row.T.Denot) → l.start ≤ k → k < l.place → g.T.Keyed.key_of (get_or l.items k d) < l.key;
}

abbrev pub decreases-loop-place : goal.decreases-loop-place
decreases-loop-place g l = length l.items - l.place
