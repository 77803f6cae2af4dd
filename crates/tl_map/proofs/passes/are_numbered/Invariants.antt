use Rattle.std.proofs.Common.{◌≡◌, ℕ, ◌-◌, ◌<◌, ◌≤◌, get_or, take}
use Rattle.tl_map_rules.specs.declared.entry.ShapeEntry.{ShapeEntry}
use Rattle.tl_map.specs.Keeping.Entries.{shapes_with, IsPlaced}
use Rattle.tl_map.proofs.passes.are_numbered.Given as goal

abbrev pub invariant-loop-shape : goal.invariant-loop-shape
invariant-loop-shape l = record {
  count : l.count ≡ shapes_with l.tlid (take l.shape-index l.shapes);
  small : l.count ≤ l.shape-index;
  last : 0 < l.shape-index → (d : ShapeEntry) → (get_or l.shapes (l.shape-index - 1) d).tlid ≡ l.tlid;
  placed : (k : ℕ) → k < l.shape-index → IsPlaced l.shapes k;
}
