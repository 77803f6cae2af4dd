use Rattle.std.proofs.Common.{◌≡◌, ℕ, ◌-◌, ◌<◌, ◌≤◌, length, get_or}
use Rattle.tl_map_county.proofs.runs.run_end.Given as goal

abbrev pub invariant-loop-end : goal.invariant-loop-end
invariant-loop-end g l = record {
  within : l.end ≤ length l.items;
  from : l.start ≤ l.end;
  same : (k : ℕ) (d : g.row.T.Denot) → l.start ≤ k → k < l.end → g.T.Keyed.key_of (get_or l.items k d) ≡ l.key;
}

abbrev pub decreases-loop-end : goal.decreases-loop-end
decreases-loop-end g l = length l.items - l.end
