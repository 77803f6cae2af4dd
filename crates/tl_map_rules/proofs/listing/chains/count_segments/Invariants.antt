use Rattle.std.proofs.Common.{◌≡◌, ℕ, ◌-◌, ◌^◌, ◌<◌, ◌≤◌, length, get_or, take, sum_by}
use Rattle.std.specs.Prelude.{min}
use Rattle.tl_map_rules.specs.declared.entry.ChainEntry.{ChainEntry}
use Rattle.tl_map_rules.specs.declared.listing.shape.ShapeSummary.{ShapeSummary}
use Rattle.tl_map_rules.specs.Listing.Keeping.Chains.{steps_with}
use Rattle.tl_map_rules.proofs.listing.chains.count_segments.Given as goal

abbrev pub invariant-loop-chain : goal.invariant-loop-chain
invariant-loop-chain l = record {
  within : l.start ≤ length l.shapes;
  passed : (k : ℕ) (d : ShapeSummary) (e : ChainEntry) → k < l.start → l.chain-index < length l.chains → (get_or l.shapes k d).tlid < (get_or l.chains l.chain-index e).tlid;
  sum : l.segments ≡ min (sum_by (steps_with l.shapes) (take l.chain-index l.chains)) (2 ^ 64 - 1);
}
