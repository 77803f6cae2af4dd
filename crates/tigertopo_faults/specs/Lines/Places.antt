-- Where faults lie.
use Rattle.std.specs.Prelude.{ℕ, List, [], ◌∷◌, Option, None, Some, option_map, slice_get, if◌then◌else◌}
use Rattle.std.specs.Option.{option_and_then}
use Rattle.tl_geom.specs.declared.point.Point.{Point}
use Rattle.tl_geom.specs.declared.rational.Rational.{Rational}
use Rattle.tl_geom.specs.Plane.{whole}
use Rattle.tl_record_key.specs.declared.key.PolyKey.{PolyKey}
use Rattle.tl_map_county.specs.declared.polygons.Polygon.{Polygon}
use Rattle.tl_map_county.specs.TheMap.{TheMap}
use Rattle.tl_map_county.specs.Darts.{dart_start}
use Rattle.tl_map_rules.specs.MapOf.{same_key}
use Rattle.tl_check_faces.specs.declared.fault.FaceFault.TheVariants.{Facing, Outward}
use Rattle.tl_check_verdict.specs.declared.fault.MapFault.{MapFault}
use Rattle.tl_check_verdict.specs.declared.rows.About.{About}
use Rattle.tl_check_verdict.specs.declared.rows.About.TheVariants.{Records, Meet, Darts, PolygonAlone, PolygonTlid, PolygonOther, Cells, Faces}
use Rattle.tl_check_verdict.specs.Rows.{row}
use Rattle.tigertopo_faults.specs.Records.SpokenOf.{chains_of}

-- the polygons of a map, where there is one
abbrev pub polygons_of : Option TheMap → List Polygon
polygons_of None = []
polygons_of (Some m) = m.polygons

-- the point of the first polygon that has the key
abbrev pub point_of_key : List Polygon → PolyKey → Option Point
point_of_key [] key = None
point_of_key (polygon ∷ rest) key = if same_key polygon.key key then Some polygon.point else point_of_key rest key

-- where a polygon's point lies on the map
abbrev pub place_of_point : Option TheMap → PolyKey → Option Rational
place_of_point drawn key = option_map whole (point_of_key (polygons_of drawn) key)

-- where a fault lies, by what it is about, on the map that the records draw: where two segments meet, at a node, at a polygon's point, where a dart starts, on
-- the first of two segments that face one another; a fault of the records alone has no place
abbrev pub place_about : Option TheMap → About → Option Rational
place_about drawn (Records it) = None
place_about drawn (Meet meet) = Some meet.at
place_about drawn (Darts node first next) = Some (whole node)
place_about drawn (PolygonAlone key) = place_of_point drawn key
place_about drawn (PolygonTlid key tlid) = place_of_point drawn key
place_about drawn (PolygonOther key other) = place_of_point drawn key
place_about drawn (Cells odds) = option_map whole (dart_start (chains_of drawn) odds.first)
place_about drawn (Faces (Facing first last)) = Some first.at
place_about drawn (Faces (Outward face way)) = Some face.at

-- where a fault lies
abbrev pub fault_place : Option TheMap → MapFault → Option Rational
fault_place drawn fault = place_about drawn (row fault).2

-- the place with this number, where there is one
abbrev pub place_at : List (Option Rational) → ℕ → Option Rational
place_at places n = option_and_then (λ (at : Option Rational). at) (slice_get places n)
