use Rattle.std.proofs.Common.{◌≡◌, map, take}
use Rattle.indexmap.specs.IndexMap.{IsUnique}
use Rattle.tl_map_rules.specs.MapOf.{same_key}
use Rattle.tl_map.specs.Keeping.Index.{entry_of}
use Rattle.tl_map.proofs.polygons.index_polygons.Given as goal

abbrev pub invariant-loop-polygon : goal.invariant-loop-polygon
invariant-loop-polygon l = record {
  entries : l.index.entries ≡ map entry_of (take l.polygon-index l.polygons);
  unique : IsUnique same_key l.index;
}
