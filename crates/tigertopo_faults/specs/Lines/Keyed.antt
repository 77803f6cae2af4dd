-- Kept on the way: the points of polygons by their keys. No public contract cites this file.
use Rattle.std.specs.Prelude.{◌≡◌, List}
use Rattle.std.specs.declared.random_state.RandomState.{RandomState}
use Rattle.indexmap.specs.IndexMap.{IndexMap, get}
use Rattle.tl_geom.specs.declared.point.Point.{Point}
use Rattle.tl_record_key.specs.declared.key.PolyKey.{PolyKey}
use Rattle.tl_map_county.specs.declared.polygons.Polygon.{Polygon}
use Rattle.tl_map_rules.specs.MapOf.{same_key}
use Rattle.tigertopo_faults.specs.Lines.Places.{point_of_key}

-- of each key that has a polygon the index gives the point of the first that has it, and of no other key one
abbrev pub IsIndexOf : List Polygon → IndexMap PolyKey Point RandomState → Type 0
IsIndexOf polygons index = (key : PolyKey) → get same_key index key ≡ point_of_key polygons key
