-- What is printed of a refused line: the text of each field's name, of each cause and of each stop.
use Rattle.std.specs.Prelude.{ℕ, List, [], ◌++◌, Option, None, Some, codes, decimal}
use Rattle.std.specs.Option.{option_map_or}
use Rattle.tl_record.specs.declared.stop.Field.{Field}
use Rattle.tl_record.specs.declared.stop.Field.TheVariants.{Tlid, FrLong, FrLat, ToLong, ToLat, Rtsq, Long, Lat, Tzids, Tzide, CenidL, PolyidL, CenidR, PolyidR, Cenid, Polyid, PolyLong, PolyLat, Land, LaLong, LaLat}
use Rattle.tl_record.specs.declared.stop.Cause.{Cause}
use Rattle.tl_record.specs.declared.stop.Cause.TheVariants.{LineTooLong, Missing, BadField, OutOfRange, TooManyLines}
use Rattle.tl_record.specs.declared.stop.ReadStop.{ReadStop}
use Rattle.tl_record.specs.declared.stop.ReadStop.TheVariants.{Refused, Device}

-- the name of a field, without the number of a shape pair
abbrev pub field_word : Field → List ℕ
field_word Tlid = codes "TLID"
field_word FrLong = codes "FRLONG"
field_word FrLat = codes "FRLAT"
field_word ToLong = codes "TOLONG"
field_word ToLat = codes "TOLAT"
field_word Rtsq = codes "RTSQ"
field_word (Long _) = codes "LONG"
field_word (Lat _) = codes "LAT"
field_word Tzids = codes "TZIDS"
field_word Tzide = codes "TZIDE"
field_word CenidL = codes "CENIDL"
field_word PolyidL = codes "POLYIDL"
field_word CenidR = codes "CENIDR"
field_word PolyidR = codes "POLYIDR"
field_word Cenid = codes "CENID"
field_word Polyid = codes "POLYID"
field_word PolyLong = codes "POLYLONG"
field_word PolyLat = codes "POLYLAT"
field_word Land = codes "LAND"
field_word LaLong = codes "LALONG"
field_word LaLat = codes "LALAT"

-- the number of a shape pair, where the field is of one
abbrev pub pair_of : Field → Option ℕ
pair_of (Long pair) = Some pair
pair_of (Lat pair) = Some pair
pair_of other = None

-- the name of a field: that of a shape pair ends in the pair's number
abbrev pub field_text : Field → List ℕ
field_text field = field_word field ++ option_map_or decimal (pair_of field) []

-- what a refusal says: the code and the name of its cause, and the field that it is about, if it is about one. No other place says this.
abbrev pub cause_row : Cause → List ℕ × List ℕ × Option Field
cause_row LineTooLong = (codes "L1", codes "LineTooLong", None)
cause_row (Missing field) = (codes "L2", codes "Missing", Some field)
cause_row (BadField field) = (codes "L3", codes "BadField", Some field)
cause_row (OutOfRange field) = (codes "L4", codes "OutOfRange", Some field)
cause_row TooManyLines = (codes "L5", codes "TooManyLines", None)

-- a field behind a blank, where there is one
abbrev pub field_behind : Option Field → List ℕ
field_behind field = option_map_or (λ field. codes " " ++ field_text field) field []

-- the code and the name of a cause, with the field that it is about
abbrev pub cause_text : Cause → List ℕ
cause_text cause = let row = cause_row cause in row.0 ++ codes " " ++ row.1 ++ field_behind row.2

-- a refused line's number and the cause
abbrev pub refusal_text : ℕ → Cause → List ℕ
refusal_text line cause = codes "refused line " ++ decimal line ++ codes " " ++ cause_text cause

-- a stop of a reader
abbrev pub read_stop_text : ReadStop → List ℕ
read_stop_text (Refused line cause) = refusal_text line cause
read_stop_text Device = codes "stopped Device"
