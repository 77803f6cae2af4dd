use Rattle.std.proofs.Common.{◌≤◌, ◌-◌, ℕ}
use Rattle.tl_map_county.specs.Segments.{IsSegmentOf}
use Rattle.tigertopo_faults.proofs.records.segment.number_within.Given as goal

abbrev pub invariant-loop-fewest : goal.invariant-loop-fewest
invariant-loop-fewest l = record {
  fewest : (k : ℕ) → IsSegmentOf l.map.chains l.segment l.chain k → l.fewest ≤ k;
  most : (k : ℕ) → IsSegmentOf l.map.chains l.segment l.chain k → k ≤ l.most;
  within : l.most ≤ l.segment;
}

abbrev pub decreases-loop-fewest : goal.decreases-loop-fewest
decreases-loop-fewest l = l.most - l.fewest
