-- How records are spelt: each as one line, in the columns of the files of 2006, field by field.
use Rattle.std.specs.Prelude.{ℕ, ℤ, pos, negsuc, ◌-◌, unsigned_abs, List, [], ◌++◌, length, replicate, Option, Some, None, codes, decimal}
use Rattle.std.specs.List.{flat_map}
use Rattle.tl_geom.specs.declared.point.Point.{Point}
use Rattle.tl_record_key.specs.declared.key.PolyKey.{PolyKey}
use Rattle.tl_record.specs.declared.record.Record.{Record}
use Rattle.tl_record.specs.declared.record.Record.TheVariants.{Chain, Shape, Sides, PolyPoint, Landmark, AreaLink}
use Rattle.tl_cert_output.specs.Writing.{line_of}

-- a number in a field of so many columns: its digits stand last, and before them this byte
abbrev pub filled : (byte width number : ℕ) → List ℕ
filled byte width number = replicate (width - length (decimal number)) byte ++ decimal number

-- so many blanks
unfoldable pub blanks : ℕ → List ℕ
blanks count = replicate count 32

-- a number behind blanks
abbrev pub number_field : (width number : ℕ) → List ℕ
number_field width number = filled 32 width number

-- the sign of a coordinate
abbrev pub sign_text : ℤ → List ℕ
sign_text (pos n) = codes "+"
sign_text (negsuc n) = codes "-"

-- a coordinate: its sign, and so many digits
unfoldable pub coordinate_field : (digits : ℕ) → ℤ → List ℕ
coordinate_field digits value = sign_text value ++ filled 48 digits (unsigned_abs value)

-- a point: its longitude and its latitude
abbrev pub point_fields : Point → List ℕ
point_fields p = coordinate_field 9 p.x ++ coordinate_field 8 p.y

-- a shape pair, which reads as 0 where it is unused
abbrev pub pair_fields : Option Point → List ℕ
pair_fields None = codes "+000000000+00000000"
pair_fields (Some p) = point_fields p

-- a polygon's key
abbrev pub key_fields : PolyKey → List ℕ
key_fields key = key.cenid ++ number_field 10 key.polyid

-- what lies on a side: blanks, or the key of a polygon
abbrev pub side_fields : Option PolyKey → List ℕ
side_fields None = blanks 15
side_fields (Some key) = key_fields key

-- type 1: record type and VERSION, TLID, columns 16 to 190, and both ends
unfoldable pub chain_line : (tlid : ℕ) → (from to : Point) → List ℕ
chain_line tlid from to =
    codes "1EDGE" ++ number_field 10 tlid
    ++ blanks 175
    ++ point_fields from ++ point_fields to

-- type 2: record type and VERSION, TLID, RTSQ, and the shape pairs
unfoldable pub shape_line : (tlid rtsq : ℕ) → List (Option Point) → List ℕ
shape_line tlid rtsq pairs =
    codes "2EDGE" ++ number_field 10 tlid
    ++ number_field 3 rtsq
    ++ flat_map pair_fields pairs

-- type I: record type and VERSION, TLID, columns 16 to 40, and both sides
unfoldable pub sides_line : (tlid : ℕ) → (left right : Option PolyKey) → List ℕ
sides_line tlid left right =
    codes "IEDGE" ++ number_field 10 tlid
    ++ blanks 25
    ++ side_fields left ++ side_fields right

-- type P: record type and VERSION, columns 6 to 10, the key, and the point
unfoldable pub point_line : PolyKey → Point → List ℕ
point_line key point =
    codes "PEDGE" ++ blanks 5
    ++ key_fields key
    ++ point_fields point

-- a record's line. A border has none of types 7 and 8, and no zero-cell ids
abbrev pub record_line : Record → List ℕ
record_line (Chain tlid from to) = chain_line tlid from to
record_line (Shape tlid rtsq pairs) = shape_line tlid rtsq pairs
record_line (Sides tlid start end left right) = sides_line tlid left right
record_line (PolyPoint key point) = point_line key point
record_line (Landmark land point) = []
record_line (AreaLink key land) = []

-- the text of records: their lines, each with a line feed
abbrev pub records_text : List Record → List ℕ
records_text records = flat_map (λ r. line_of (record_line r)) records
