-- Which columns of a line have the field that it is refused for.
use Rattle.std.specs.Prelude.{ℕ, suc, ◌==◌, Option, None, Some, option_map, slice_get, if◌then◌else◌}
use Rattle.tl_record.specs.Range.{Range}
use Rattle.tl_record.specs.declared.layout.Layout.{Layout}
use Rattle.tl_record.specs.declared.layout.ChainColumns.{ChainColumns}
use Rattle.tl_record.specs.declared.layout.ShapeColumns.{ShapeColumns}
use Rattle.tl_record.specs.declared.layout.CellColumns.{CellColumns}
use Rattle.tl_record.specs.declared.layout.SidesColumns.{SidesColumns}
use Rattle.tl_record.specs.declared.layout.PolyPointColumns.{PolyPointColumns}
use Rattle.tl_record.specs.declared.layout.LandmarkColumns.{LandmarkColumns}
use Rattle.tl_record.specs.declared.layout.AreaLinkColumns.{AreaLinkColumns}
use Rattle.tl_record.specs.declared.layout.LandmarksColumns.{LandmarksColumns}
use Rattle.tl_record.specs.declared.layout.PointColumns.{PointColumns}
use Rattle.tl_record.specs.declared.stop.Field.{Field}
use Rattle.tl_record.specs.declared.stop.Field.TheVariants.{Tlid, FrLong, FrLat, ToLong, ToLat, Rtsq, Long, Lat, Tzids, Tzide, CenidL, PolyidL, CenidR, PolyidR, Cenid, Polyid, PolyLong, PolyLat, Land, LaLong, LaLat}
use Rattle.tigertopo_faults.specs.declared.places.field_columns.FieldColumns.{FieldColumns}

-- the columns of type 1's fields
abbrev pub chain_columns : ChainColumns → Field → Option Range
chain_columns columns Tlid = Some columns.tlid
chain_columns columns FrLong = Some columns.from.long
chain_columns columns FrLat = Some columns.from.lat
chain_columns columns ToLong = Some columns.to.long
chain_columns columns ToLat = Some columns.to.lat
chain_columns columns other = None

-- the columns of type 2's fields: the shape pairs are numbered from 1
abbrev pub shape_columns : ShapeColumns → Field → Option Range
shape_columns columns Tlid = Some columns.tlid
shape_columns columns Rtsq = Some columns.rtsq
shape_columns columns (Long (suc before)) = option_map (λ (pair : PointColumns). pair.long) (slice_get columns.pairs before)
shape_columns columns (Lat (suc before)) = option_map (λ (pair : PointColumns). pair.lat) (slice_get columns.pairs before)
shape_columns columns other = None

-- the columns of the zero-cell ids, where they are read
abbrev pub cell_columns : Option CellColumns → Field → Option Range
cell_columns (Some columns) Tzids = Some columns.start
cell_columns (Some columns) Tzide = Some columns.end
cell_columns columns other = None

-- the columns of type I's fields
abbrev pub sides_columns : SidesColumns → Field → Option Range
sides_columns columns Tlid = Some columns.tlid
sides_columns columns CenidL = Some columns.left.cenid
sides_columns columns PolyidL = Some columns.left.polyid
sides_columns columns CenidR = Some columns.right.cenid
sides_columns columns PolyidR = Some columns.right.polyid
sides_columns columns other = cell_columns columns.cells other

-- the columns of type P's fields
abbrev pub poly_point_columns : PolyPointColumns → Field → Option Range
poly_point_columns columns Cenid = Some columns.key.cenid
poly_point_columns columns Polyid = Some columns.key.polyid
poly_point_columns columns PolyLong = Some columns.point.long
poly_point_columns columns PolyLat = Some columns.point.lat
poly_point_columns columns other = None

-- the columns of type 7's fields
abbrev pub landmark_columns : LandmarkColumns → Field → Option Range
landmark_columns columns Land = Some columns.land
landmark_columns columns LaLong = Some columns.point.long
landmark_columns columns LaLat = Some columns.point.lat
landmark_columns columns other = None

-- the columns of type 8's fields
abbrev pub area_link_columns : AreaLinkColumns → Field → Option Range
area_link_columns columns Cenid = Some columns.key.cenid
area_link_columns columns Polyid = Some columns.key.polyid
area_link_columns columns Land = Some columns.land
area_link_columns columns other = None

-- the columns of a field of types 7 and 8, 55 and 56, where they are read
abbrev pub landmarks_columns : Option LandmarksColumns → ℕ → Field → Option Range
landmarks_columns None kind name = None
landmarks_columns (Some columns) kind name =
    if kind == 55 then landmark_columns columns.landmark name else
    if kind == 56 then area_link_columns columns.area_link name else
    None

-- the columns of a field, on a line whose first byte is its record type, as 49 is '1', 73 is 'I' and 80 is 'P'; a type that
-- hasn't the field has none
abbrev pub columns_of : Layout → ℕ → Field → Option Range
columns_of layout kind name =
    if kind == 49 then chain_columns layout.chain name else
    if kind == 50 then shape_columns layout.shape name else
    if kind == 73 then sides_columns layout.sides name else
    if kind == 80 then poly_point_columns layout.poly_point name else
    landmarks_columns layout.landmarks kind name

-- columns as a range
abbrev pub range_of : FieldColumns → Range
range_of columns = record { first = columns.first; last = columns.last }
