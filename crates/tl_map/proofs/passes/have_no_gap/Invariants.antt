use Rattle.std.proofs.Common.{◌≡◌, ℕ, ◌-◌, ◌<◌, get_or, List, false, take}
use Rattle.tl_geom.specs.declared.point.Point.{Point}
use Rattle.tl_record.specs.declared.record.Record.{Record}
use Rattle.tl_map_rules.specs.declared.entry.ShapeEntry.{ShapeEntry}
use Rattle.tl_map_rules.specs.ChainsOf.{has_gap, pairs_up_to}
use Rattle.tl_map.specs.Keeping.Entries.{shapes_with, AreShapeEntries}
use Rattle.tl_map.proofs.passes.have_no_gap.Given as goal
use Rattle.tl_map_rules.specs.Keeping.Pairs.{some_unused}

abbrev pub invariant-loop-shape : goal.invariant-loop-shape
invariant-loop-shape l = record {
  last : 0 < l.shape-index → (d : ShapeEntry) → (get_or l.shapes (l.shape-index - 1) d).tlid ≡ l.tlid;
  free : (rs : List Record) (pool : List Point) → AreShapeEntries rs pool l.shapes → (t : ℕ) → has_gap (pairs_up_to rs t (shapes_with t (take l.shape-index l.shapes))) ≡ false;
  ended : (rs : List Record) (pool : List Point) → AreShapeEntries rs pool l.shapes → l.ended ≡ some_unused (pairs_up_to rs l.tlid (shapes_with l.tlid (take l.shape-index l.shapes)));
}
