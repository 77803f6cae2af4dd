use Rattle.std.proofs.Common.{ℕ, ◌-◌, ◌<◌, ◌≤◌, length}
use Rattle.tl_map_county.specs.Segments.{segments_before, IsSegmentOf}
use Rattle.tl_check_sweep.proofs.suspects.begin_of_chain.Given as goal

abbrev pub decreases-loop-low : goal.decreases-loop-low
decreases-loop-low l = l.high - l.low

abbrev pub invariant-loop-low : goal.invariant-loop-low
invariant-loop-low l =
    (l.low ≤ l.high) × (l.high ≤ segments_before l.map.chains (length l.map.chains)) ×
    ((x d k : ℕ) → x < l.low → IsSegmentOf l.map.chains x d k → d < l.c) × ((x d k : ℕ) → l.high ≤ x → IsSegmentOf l.map.chains x d k → l.c ≤ d)
