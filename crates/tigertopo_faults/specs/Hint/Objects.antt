-- Refused lines as objects of JSON, and as features of GeoJSON.
use Rattle.std.specs.Prelude.{ℕ, List, [], ◌++◌, Option, None, Some, codes, decimal}
use Rattle.std.specs.Option.{option_map_or}
use Rattle.tl_record.specs.Range.{Range}
use Rattle.tl_record.specs.declared.layout.Layout.{Layout}
use Rattle.tl_record.specs.declared.stop.Field.{Field}
use Rattle.tl_record.specs.declared.stop.Cause.{Cause}
use Rattle.tl_record.specs.Lines.{content}
use Rattle.tl_record.specs.Messages.{cause_row, cause_text, field_text}
use Rattle.tigertopo_words.specs.Json.{string_text, bytes_text}
use Rattle.tigertopo_faults.specs.Hint.Hints.{columns_for}
use Rattle.tigertopo_faults.specs.Hint.Shown.{bytes_at}

-- the name of a field as a string, or null where there is none
abbrev pub field_string : Option Field → List ℕ
field_string None = codes "null"
field_string (Some field) = string_text (field_text field)

-- the code and the name of a cause as members of an object
abbrev pub cause_members : Cause → List ℕ
cause_members cause = codes "\"code\":" ++ string_text (cause_row cause).0 ++ codes ",\"name\":" ++ string_text (cause_row cause).1

-- the beginning of an object: the code and the name of the cause, the line's number through all files and the field that it is refused for;
-- what is told of its place stands behind it
unfoldable pub refused_object : ℕ → Cause → List ℕ
refused_object line cause =
    codes "{\"is\":\"refused\"," ++ cause_members cause ++ codes ",\"about\":{\"line\":" ++ decimal line
    ++ codes ",\"field\":" ++ field_string (cause_row cause).2 ++ codes "},\"records\":["

-- the end of an object
abbrev pub refused_end : List ℕ
refused_end = codes "]}\n"

-- the beginning of a feature behind another one, which has no place on the map: the code, the name and the text of the cause, and the line's
-- number through all files; what is told of its place stands behind it
unfoldable pub refused_feature : ℕ → Cause → List ℕ
refused_feature line cause =
    codes ",\n{\"type\":\"Feature\",\"geometry\":null,\"properties\":{" ++ cause_members cause
    ++ codes ",\"refused\":" ++ string_text (cause_text cause) ++ codes ",\"line\":" ++ decimal line ++ codes ",\"records\":["

-- the end of a feature
abbrev pub feature_end : List ℕ
feature_end = codes "]}}"

-- columns, and what a line holds there
abbrev pub columns_members : List ℕ → Range → List ℕ
columns_members line columns =
    codes ",\"columns\":[" ++ decimal columns.first ++ codes "," ++ decimal columns.last ++ codes "],\"bytes\":" ++ bytes_text (bytes_at line columns)

-- the columns of the field that a line is refused for, if it is for one
abbrev pub field_members : Layout → List ℕ → Cause → List ℕ
field_members layout line cause = option_map_or (columns_members line) (columns_for layout line cause) []

-- a file, one of its lines, and the columns of the field that it is refused for
unfoldable pub place_object : Layout → List ℕ → ℕ → List ℕ → Cause → List ℕ
place_object layout name number line cause =
    codes "{\"file\":" ++ string_text name ++ codes ",\"line\":" ++ decimal number ++ field_members layout (content line) cause ++ codes "}"
