-- What a raw line with its number means, by a layout: a record, a line that is passed over, or a refusal.
use Rattle.std.specs.Prelude.{ℕ, ℤ, ◌+◌, ◌==◌, ◌&&◌, ◌^◌, unsigned_abs, nat_lt, nat_le, Bool, true, false, List, [], ◌∷◌, length, Result, Ok, Err, Option, Some, None, if◌then◌else◌}
use Rattle.tl_geom.specs.declared.point.Point.{Point}
use Rattle.tl_record.specs.declared.layout.Layout.{Layout}
use Rattle.tl_record.specs.declared.layout.ChainColumns.{ChainColumns}
use Rattle.tl_record.specs.declared.layout.ShapeColumns.{ShapeColumns}
use Rattle.tl_record.specs.declared.layout.CellColumns.{CellColumns}
use Rattle.tl_record.specs.declared.layout.SidesColumns.{SidesColumns}
use Rattle.tl_record.specs.declared.layout.KeyColumns.{KeyColumns}
use Rattle.tl_record.specs.declared.layout.PolyPointColumns.{PolyPointColumns}
use Rattle.tl_record.specs.declared.layout.LandmarkColumns.{LandmarkColumns}
use Rattle.tl_record.specs.declared.layout.AreaLinkColumns.{AreaLinkColumns}
use Rattle.tl_record.specs.declared.layout.LandmarksColumns.{LandmarksColumns}
use Rattle.tl_record.specs.declared.layout.PointColumns.{PointColumns}
use Rattle.tl_record.specs.declared.stop.Cause.{Cause}
use Rattle.tl_record.specs.declared.stop.Cause.TheVariants.{LineTooLong, Missing, BadField, OutOfRange, TooManyLines}
use Rattle.tl_record.specs.declared.stop.Field.{Field}
use Rattle.tl_record.specs.declared.stop.Field.TheVariants as field_name
use Rattle.tl_record.specs.declared.record.Record.{Record}
use Rattle.tl_record.specs.declared.record.Record.TheVariants.{Chain, Shape, Sides, PolyPoint, Landmark, AreaLink}
use Rattle.tl_record_key.specs.declared.key.PolyKey.{PolyKey}
use Rattle.tl_record.specs.declared.number.Spelt.{Spelt}
use Rattle.tl_record.specs.declared.number.Spelt.TheVariants.{Blank, Value, Unreadable}
use Rattle.tl_record.specs.declared.judge.Judgement.{Judgement}
use Rattle.tl_record.specs.declared.judge.Judgement.TheVariants.{PassedOver, Read, Refused}
use Rattle.std.specs.List.{list_all}
use Rattle.tl_record.specs.Range.{Range}
use Rattle.tl_record.specs.Limits.{most_lines, most_line_bytes, greatest_longitude, greatest_latitude}
use Rattle.tl_record.specs.Lines.{content}
use Rattle.tl_record.specs.Fields.{field, is_cenid_byte, number_spelt, coordinate_spelt}
use Rattle.tl_record.specs.Outcome.{◌>>=◌}

-- a field that has to be given, with the value that it spells
abbrev pub required : {T : Type 0} → Field → Spelt T → Result T Cause
required name Blank = Err (Missing name)
required name (Value value) = Ok value
required name Unreadable = Err (BadField name)

-- a coordinate that is at most so far from 0
abbrev pub in_range : Field → ℕ → ℤ → Result ℤ Cause
in_range name limit value = if nat_le (unsigned_abs value) limit then Ok value else Err (OutOfRange name)

abbrev pub coordinate : Field → ℕ → Spelt ℤ → Result ℤ Cause
coordinate name limit spelt = required name spelt >>= in_range name limit

-- a point that has to be given: its longitude is tested first, then its latitude
abbrev pub point : Field → Field → Spelt ℤ → Spelt ℤ → Result Point Cause
point long_name lat_name long lat = do
  x ← coordinate long_name greatest_longitude long
  y ← coordinate lat_name greatest_latitude lat
  Ok (record { x = x; y = y })

abbrev pub is_blank_field : {T : Type 0} → Spelt T → Bool
is_blank_field Blank = true
is_blank_field (Value value) = false
is_blank_field Unreadable = false

-- a point that may be left out, by two blank fields
abbrev pub optional_point : Field → Field → Spelt ℤ → Spelt ℤ → Result (Option Point) Cause
optional_point long_name lat_name long lat =
    if is_blank_field long && is_blank_field lat then Ok None else (point long_name lat_name long lat >>= λ p. Ok (Some p))

-- the fields of a point on a line
abbrev pub point_at : Field → Field → PointColumns → List ℕ → Result Point Cause
point_at long_name lat_name columns line =
    point long_name lat_name (coordinate_spelt (field line columns.long)) (coordinate_spelt (field line columns.lat))

abbrev pub optional_point_at : Field → Field → PointColumns → List ℕ → Result (Option Point) Cause
optional_point_at long_name lat_name columns line =
    optional_point long_name lat_name (coordinate_spelt (field line columns.long)) (coordinate_spelt (field line columns.lat))

-- a shape pair whose fields both read as 0 is unused, as one whose fields are blank is
abbrev pub unless_zero : Option Point → Option Point
unless_zero None = None
unless_zero (Some p) = if unsigned_abs p.x == 0 && unsigned_abs p.y == 0 then None else Some p

-- the shape pair with this number, where it is used
abbrev pub shape_pair_at : ℕ → PointColumns → List ℕ → Result (Option Point) Cause
shape_pair_at number columns line = do
  pair ← optional_point_at (field_name.Long number) (field_name.Lat number) columns line
  Ok (unless_zero pair)

-- the shape pairs of a line, of which the first has this number
unfoldable pub shape_pairs : ℕ → List PointColumns → List ℕ → Result (List (Option Point)) Cause
shape_pairs number [] line = Ok []
shape_pairs number (columns ∷ others) line = do
  pair ← optional_point_at (field_name.Long number) (field_name.Lat number) columns line
  rest ← shape_pairs (number + 1) others line
  Ok (unless_zero pair ∷ rest)

-- a number that has to be given
abbrev pub number_at : Field → Range → List ℕ → Result ℕ Cause
number_at name columns line = required name (number_spelt (field line columns))

-- a sequence number fits 16 bits; three columns hold no other
abbrev pub sequence_number : ℕ → Result ℕ Cause
sequence_number number = if nat_lt number (2 ^ 16) then Ok number else Err (BadField field_name.Rtsq)

-- type 1: a complete chain
unfoldable pub chain_record : ChainColumns → List ℕ → Result Record Cause
chain_record columns line = do
  tlid ← number_at field_name.Tlid columns.tlid line
  from ← point_at field_name.FrLong field_name.FrLat columns.from line
  to ← point_at field_name.ToLong field_name.ToLat columns.to line
  Ok (Chain tlid from to)

-- type 2: shape points of a chain
unfoldable pub shape_record : ShapeColumns → List ℕ → Result Record Cause
shape_record columns line = do
  tlid ← number_at field_name.Tlid columns.tlid line
  number ← number_at field_name.Rtsq columns.rtsq line
  rtsq ← sequence_number number
  pairs ← shape_pairs 1 columns.pairs line
  Ok (Shape tlid rtsq pairs)

-- the bytes of a CENID: five that are printed or blanks, taken as they stand
abbrev pub cenid_at : Field → Range → List ℕ → Result (List ℕ) Cause
cenid_at name columns line =
    if list_all is_cenid_byte (field line columns) then Ok (field line columns) else Err (BadField name)

-- a polygon's key, that has to be given: its CENID is tested first, and five blanks are one
abbrev pub key_at : Field → Field → KeyColumns → List ℕ → Result PolyKey Cause
key_at cenid_name polyid_name columns line = do
  cenid ← cenid_at cenid_name columns.cenid line
  polyid ← number_at polyid_name columns.polyid line
  Ok (record { cenid = cenid; polyid = polyid })

-- a side: with a blank POLYID it is outside, whatever its CENID holds
abbrev pub side_at : Field → Field → KeyColumns → List ℕ → Result (Option PolyKey) Cause
side_at cenid_name polyid_name columns line =
    if is_blank_field (number_spelt (field line columns.polyid)) then Ok None else (key_at cenid_name polyid_name columns line >>= λ key. Ok (Some key))

-- the id that a zero-cell id's field gives: blanks are none, and neither is 0
abbrev pub optional_id : Field → Spelt ℕ → Result (Option ℕ) Cause
optional_id name Blank = Ok None
optional_id name (Value number) = Ok (if number == 0 then None else Some number)
optional_id name Unreadable = Err (BadField name)

abbrev pub id_at : Field → Range → List ℕ → Result (Option ℕ) Cause
id_at name columns line = optional_id name (number_spelt (field line columns))

-- the zero-cell ids of a chain's start and its end, where the layout has columns for them
abbrev pub cells_at : Option CellColumns → List ℕ → Result (Option ℕ × Option ℕ) Cause
cells_at None line = Ok (None, None)
cells_at (Some columns) line = do
  start ← id_at field_name.Tzids columns.start line
  end ← id_at field_name.Tzide columns.end line
  Ok (start, end)

-- type I: the polygons on both sides of a chain, and the zero-cell ids of its start and its end
unfoldable pub sides_record : SidesColumns → List ℕ → Result Record Cause
sides_record columns line = do
  tlid ← number_at field_name.Tlid columns.tlid line
  cells ← cells_at columns.cells line
  left ← side_at field_name.CenidL field_name.PolyidL columns.left line
  right ← side_at field_name.CenidR field_name.PolyidR columns.right line
  Ok (Sides tlid cells.0 cells.1 left right)

-- type P: a polygon and its internal point
unfoldable pub poly_point_record : PolyPointColumns → List ℕ → Result Record Cause
poly_point_record columns line = do
  key ← key_at field_name.Cenid field_name.Polyid columns.key line
  internal ← point_at field_name.PolyLong field_name.PolyLat columns.point line
  Ok (PolyPoint key internal)

-- type 7: a landmark, with a point or none
unfoldable pub landmark_record : LandmarkColumns → List ℕ → Result Record Cause
landmark_record columns line = do
  land ← number_at field_name.Land columns.land line
  place ← optional_point_at field_name.LaLong field_name.LaLat columns.point line
  Ok (Landmark land place)

-- type 8: a polygon that belongs to an area landmark
unfoldable pub area_link_record : AreaLinkColumns → List ℕ → Result Record Cause
area_link_record columns line = do
  key ← key_at field_name.Cenid field_name.Polyid columns.key line
  land ← number_at field_name.Land columns.land line
  Ok (AreaLink key land)

abbrev pub judged : Result Record Cause → Judgement
judged (Ok r) = Read r
judged (Err cause) = Refused cause

-- types 7 and 8, 55 and 56, where they are read
abbrev pub landmarks_judgement : Option LandmarksColumns → ℕ → List ℕ → Judgement
landmarks_judgement None kind line = PassedOver
landmarks_judgement (Some columns) kind line =
    if kind == 55 then judged (landmark_record columns.landmark line) else
    if kind == 56 then judged (area_link_record columns.area_link line) else
    PassedOver

-- what a line's content means: its first byte is the record type, as 49 is '1', 73 is 'I' and 80 is 'P'
abbrev pub content_judgement : Layout → List ℕ → Judgement
content_judgement layout [] = PassedOver
content_judgement layout (kind ∷ rest) =
    if kind == 49 then judged (chain_record layout.chain (kind ∷ rest)) else
    if kind == 50 then judged (shape_record layout.shape (kind ∷ rest)) else
    if kind == 73 then judged (sides_record layout.sides (kind ∷ rest)) else
    if kind == 80 then judged (poly_point_record layout.poly_point (kind ∷ rest)) else
    landmarks_judgement layout.landmarks kind (kind ∷ rest)

-- what a raw line with this number means: the first rule that applies
abbrev pub judgement : Layout → ℕ → List ℕ → Judgement
judgement layout number line =
    if nat_lt most_lines number then Refused TooManyLines else
    if nat_lt most_line_bytes (length line) then Refused LineTooLong else
    content_judgement layout (content line)
