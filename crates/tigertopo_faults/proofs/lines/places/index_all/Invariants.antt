use Rattle.std.proofs.Common.{◌≡◌, ◌≤◌, drop, length}
use Rattle.tl_record_key.specs.declared.key.PolyKey.{PolyKey}
use Rattle.indexmap.specs.IndexMap.{get}
use Rattle.tl_map_rules.specs.MapOf.{same_key}
use Rattle.tigertopo_faults.specs.Lines.Places.{point_of_key}
use Rattle.tigertopo_faults.proofs.lines.places.index_all.Given as goal

abbrev pub invariant-loop-left : goal.invariant-loop-left
invariant-loop-left l = record {
  within : l.left ≤ length l.map.polygons;
  keyed : (key : PolyKey) → get same_key l.index key ≡ point_of_key (drop l.left l.map.polygons) key;
}

abbrev pub decreases-loop-left : goal.decreases-loop-left
decreases-loop-left l = l.left
