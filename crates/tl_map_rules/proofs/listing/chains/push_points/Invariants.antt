use Rattle.std.proofs.Common.{ℕ, ◌<◌, ◌≤◌, length, get_or}
use Rattle.tl_map_rules.specs.declared.entry.ChainEntry.{ChainEntry}
use Rattle.tl_map_rules.specs.declared.listing.shape.ShapeSummary.{ShapeSummary}
use Rattle.tl_map_rules.specs.Listing.Keeping.Told.{Tells}
use Rattle.tl_map_rules.specs.Listing.Keeping.Chains.{IsOnePointFault}
use Rattle.tl_map_rules.proofs.listing.chains.push_points.Given as goal

abbrev pub invariant-loop-place : goal.invariant-loop-place
invariant-loop-place l = record {
  within : l.start ≤ length l.shapes;
  passed : (k : ℕ) (d : ShapeSummary) (e : ChainEntry) → k < l.start → l.place < length l.chains → (get_or l.shapes k d).tlid < (get_or l.chains l.place e).tlid;
  told : Tells (IsOnePointFault l.chains l.shapes l.place) l.fn.faults.items l.faults.items;
}
