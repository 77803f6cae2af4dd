-- The border of a map as records: those of its chains that name a polygon on one side at most, with one polygon in place of all.
use Rattle.std.specs.Prelude.{ℕ, pos, zero, suc, ◌+◌, ◌-◌, ◌*◌, ◌/◌, List, [], ◌∷◌, ◌++◌, length, take, drop, Option, Some, None, slice_get, slice_index_or, if◌then◌else◌, count_by, sum_by}
use Rattle.std.specs.List.{flat_map}
use Rattle.std.specs.Option.{option_map_or}
use Rattle.tl_geom.specs.declared.point.Point.{Point}
use Rattle.tl_record_key.specs.declared.key.PolyKey.{PolyKey}
use Rattle.tl_record.specs.declared.record.Record.{Record}
use Rattle.tl_record.specs.declared.record.Record.TheVariants.{Chain, Shape, Sides, PolyPoint}
use Rattle.tl_map_county.specs.declared.polygons.Polygon.{Polygon}
use Rattle.tl_map_county.specs.declared.sides.Side.{Side}
use Rattle.tl_map_county.specs.declared.sides.Side.TheVariants as side
use Rattle.tl_map_county.specs.TheMap.{TheMap, MapChain}
use Rattle.tigertopo_border.specs.Whole.Borders.{has_blank}
use Rattle.tigertopo_border.specs.Spelling.{records_text}

-- the border's one polygon: its name as CENID, and the POLYID 1
abbrev pub border_key : (name : List ℕ) → PolyKey
border_key name = record { cenid = name; polyid = 1 }

-- it lies on a side where a polygon of the map does
abbrev pub side_key : (name : List ℕ) → Side → Option PolyKey
side_key name side.Outside = None
side_key name (side.Polygon p) = Some (border_key name)

-- the first point of a chain, and the last. It has two or more
abbrev pub origin : Point
origin = record { x = pos 0; y = pos 0 }

abbrev pub start_of : List Point → Point
start_of points = slice_index_or points 0 origin

abbrev pub end_of : List Point → Point
end_of points = slice_index_or points (length points - 1) origin

-- the points between them
abbrev pub inner : List Point → List Point
inner points = take (length points - 2) (drop 1 points)

-- so many shape pairs, from this place of the points on, unused behind the last of them
abbrev pub pairs_from : List Point → (place count : ℕ) → List (Option Point)
pairs_from points place zero = []
pairs_from points place (suc n) = pairs_from points place n ++ slice_get points (place + n) ∷ []

-- the type 2 records of a chain, with ten pairs each, numbered from 1: the first so many, and how many there are
abbrev pub shapes_below : (tlid : ℕ) → List Point → (count : ℕ) → List Record
shapes_below tlid points zero = []
shapes_below tlid points (suc n) = shapes_below tlid points n ++ Shape tlid (n + 1) (pairs_from points (10 * n) 10) ∷ []

abbrev pub shape_count : List Point → ℕ
shape_count points = (length points - 2 + 9) / 10

-- the records of a chain: of type 1, of type 2 and of type I
unfoldable pub chain_records : (name : List ℕ) → (tlid : ℕ) → List Point → (left right : Side) → List Record
chain_records name tlid points left right =
    Chain tlid (start_of points) (end_of points) ∷ []
    ++ shapes_below tlid (inner points) (shape_count points)
    ++ Sides tlid None None (side_key name left) (side_key name right) ∷ []

-- those of a chain of the map, if it is of the border
abbrev pub records_of_chain : (name : List ℕ) → MapChain → List Record
records_of_chain name c = if has_blank c then chain_records name c.tlid c.points c.left c.right else []

-- those of the chain with this number
abbrev pub records_at : (name : List ℕ) → TheMap → ℕ → List Record
records_at name m c = option_map_or (records_of_chain name) (slice_get m.chains c) []

-- the polygon's record, of type P: its point is that of the map's first polygon, if there is one
abbrev pub polygon_records : (name : List ℕ) → List Polygon → List Record
polygon_records name [] = []
polygon_records name (polygon ∷ rest) = PolyPoint (border_key name) polygon.point ∷ []

-- the records of the map's border, chains by rising TLID
unfoldable pub border_records : (name : List ℕ) → TheMap → List Record
border_records name m = flat_map (records_of_chain name) m.chains ++ polygon_records name m.polygons

-- their text
abbrev pub border_text : (name : List ℕ) → TheMap → List ℕ
border_text name m = records_text (border_records name m)

-- the segments of a chain, if it is of the border, and those of the chain with this number
abbrev pub border_segments : MapChain → ℕ
border_segments c = if has_blank c then length c.points - 1 else 0

abbrev pub segments_at : TheMap → ℕ → ℕ
segments_at m c = option_map_or border_segments (slice_get m.chains c) 0

-- how many chains and how many segments the border has
abbrev pub chain_count : TheMap → ℕ
chain_count m = count_by has_blank m.chains

abbrev pub segment_count : TheMap → ℕ
segment_count m = sum_by border_segments m.chains
