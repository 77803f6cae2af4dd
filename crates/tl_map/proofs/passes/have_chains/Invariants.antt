use Rattle.std.proofs.Common.{ℕ, ◌-◌, ◌<◌, ◌≤◌, length, get_or}
use Rattle.tl_map_rules.specs.declared.entry.ChainEntry.{ChainEntry}
use Rattle.tl_map_rules.specs.declared.entry.ShapeEntry.{ShapeEntry}
use Rattle.tl_map.specs.Keeping.Entries.{chains_with}
use Rattle.tl_map.proofs.passes.have_chains.Given as goal

abbrev pub invariant-loop-shape : goal.invariant-loop-shape
invariant-loop-shape l = record {
  within : l.below ≤ length l.chains;
  passed : (k : ℕ) (d : ChainEntry) (e : ShapeEntry) → k < l.below → (0 < l.shape-index) × ((get_or l.chains k d).tlid < (get_or l.shapes (l.shape-index - 1) e).tlid);
  known : (k : ℕ) (d : ShapeEntry) → k < l.shape-index → 1 ≤ chains_with (get_or l.shapes k d).tlid l.chains;
}
