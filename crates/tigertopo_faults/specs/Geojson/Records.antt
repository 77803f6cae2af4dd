-- The records that a fault speaks of.
use Rattle.std.specs.Prelude.{ℕ, List, [], ◌++◌, Option, None, Some, codes, decimal, slice_get}
use Rattle.std.specs.Option.{option_map_or}
use Rattle.tl_record.specs.declared.record.Record.{Record}
use Rattle.tl_record.specs.declared.record.Record.TheVariants.{Chain, Shape, Sides, PolyPoint, Landmark, AreaLink}
use Rattle.tl_map_county.specs.TheMap.{MapChain}
use Rattle.tl_check_verdict.specs.declared.rows.About.{About}
use Rattle.tigertopo_faults.specs.Places.LinePlaces.{place_of}
use Rattle.tigertopo_faults.specs.declared.records.line.RecordLine.{RecordLine}
use Rattle.tigertopo_faults.specs.declared.records.subject.Subject.{Subject}
use Rattle.tigertopo_faults.specs.declared.records.line.SegmentEnds.{SegmentEnds}
use Rattle.tigertopo_faults.specs.declared.records.line.Part.{Part}
use Rattle.tigertopo_faults.specs.declared.records.line.Part.TheVariants.{Start, Pair, End}
use Rattle.tigertopo_faults.specs.Lines.Texts.{spoken_of}
use Rattle.tigertopo_words.specs.Json.{string_text}
use Rattle.tigertopo_pictures.specs.Items.{separated}

-- a record's type
abbrev pub type_text : Record → List ℕ
type_text (Chain tlid from to) = codes "1"
type_text (Shape tlid rtsq pairs) = codes "2"
type_text (Sides tlid start_cell end_cell left right) = codes "I"
type_text (PolyPoint key point) = codes "P"
type_text (Landmark land point) = codes "7"
type_text (AreaLink key land) = codes "8"

-- a line by its number in all files, where its file isn't known
abbrev pub unknown_text : ℕ → List ℕ
unknown_text number = codes "null,\"line\":" ++ decimal number

-- a line's file and its number there, of a place among files with these names
abbrev pub known_text : List (List ℕ) → ℕ → ℕ × ℕ → List ℕ
known_text names number place =
    option_map_or (λ name. string_text name ++ codes ",\"line\":" ++ decimal place.1) (slice_get names place.0) (unknown_text number)

-- a line of all files as one text, by its file and its number there, where the files have so many lines each
abbrev pub line_text : List (List ℕ) → List ℕ → ℕ → List ℕ
line_text names counts number = option_map_or (known_text names number) (place_of counts number) (unknown_text number)

-- where in its record an end of a segment is: a pair by its number
abbrev pub part_text : Part → List ℕ
part_text Start = codes "\"start\""
part_text (Pair n) = decimal n
part_text End = codes "\"end\""

-- the other end, behind the one
abbrev pub other_text : Option Part → List ℕ
other_text None = []
other_text (Some part) = codes "," ++ part_text part

-- the segment that is spoken of, and the ends that the record holds of it, where one is
abbrev pub ends_text : Option SegmentEnds → List ℕ
ends_text None = []
ends_text (Some ends) = codes ",\"segment\":" ++ decimal ends.segment ++ codes ",\"ends\":[" ++ part_text ends.part ++ other_text ends.other ++ codes "]"

-- a record: its file, its line there and its type, and where a segment is spoken of, which of its ends the record holds
unfoldable pub record_text : List (List ℕ) → List ℕ → RecordLine → List ℕ
record_text names counts line =
    codes "{\"file\":" ++ line_text names counts line.line ++ codes ",\"type\":\"" ++ type_text line.holds ++ codes "\"" ++ ends_text line.ends ++ codes "}"

-- the records that a fault speaks of, one after the other
abbrev pub spoken_lines : List MapChain → (Subject → List RecordLine) → About → List RecordLine
spoken_lines chains about it = (spoken_of chains about it).0 ++ (spoken_of chains about it).1

-- a list of records
unfoldable pub records_text : List (List ℕ) → List ℕ → List RecordLine → List ℕ
records_text names counts lines = codes ",\"records\":[" ++ separated (record_text names counts) lines ++ codes "]"
