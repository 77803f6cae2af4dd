-- What is printed of faults with the records that they speak of.
use Rattle.std.specs.Prelude.{ℕ, ◌+◌, List, [], ◌∷◌, ◌++◌, Option, None, Some, codes, decimal, length, take, slice_get, if◌then◌else◌}
use Rattle.std.specs.Option.{option_map_or}
use Rattle.tl_geom.specs.declared.rational.Rational.{Rational}
use Rattle.tl_record_key.specs.KeyText.{key_text}
use Rattle.tl_record.specs.declared.record.Record.{Record}
use Rattle.tl_record.specs.declared.record.Record.TheVariants.{Chain, Shape, Sides, PolyPoint, Landmark, AreaLink}
use Rattle.tl_map_county.specs.TheMap.{MapChain}
use Rattle.tl_cert_output.specs.Writing.{line_of}
use Rattle.tl_check_verdict.specs.declared.fault.MapFault.{MapFault}
use Rattle.tl_check_verdict.specs.declared.rows.About.{About}
use Rattle.tl_check_verdict.specs.declared.rows.About.TheVariants.{Meet}
use Rattle.tl_check_verdict.specs.Rows.{row}
use Rattle.tl_check_verdict.specs.Messages.{map_fault_text}
use Rattle.tigertopo_faults.specs.Places.LinePlaces.{place_of}
use Rattle.tigertopo_faults.specs.Places.Degrees.{is_in_reach, location_text}
use Rattle.tigertopo_faults.specs.declared.records.line.RecordLine.{RecordLine}
use Rattle.tigertopo_faults.specs.declared.records.line.SegmentEnds.{SegmentEnds}
use Rattle.tigertopo_faults.specs.declared.records.line.Part.{Part}
use Rattle.tigertopo_faults.specs.declared.records.line.Part.TheVariants.{Start, Pair, End}
use Rattle.tigertopo_faults.specs.declared.records.subject.Subject.{Subject}
use Rattle.tigertopo_faults.specs.declared.records.subject.Subject.TheVariants.{Drawn}
use Rattle.tigertopo_faults.specs.Records.Ends.{segment_lines, segment_within}
use Rattle.tigertopo_faults.specs.Records.SpokenOf.{subjects_about}
use Rattle.tigertopo_faults.specs.Lines.Places.{place_at}
use Rattle.tigertopo_words.specs.Names.{shown_name}
use Rattle.tigertopo_words.specs.declared.budget.Told.{Told}
use Rattle.tigertopo_words.specs.declared.budget.Told.TheVariants.{One, All}
use Rattle.tl_list_text.specs.Texts.{printed, touched_text, count_line}

-- the type of a record, and what it is of
abbrev pub record_text : Record → List ℕ
record_text (Chain tlid from to) = codes ", type 1, tlid " ++ decimal tlid
record_text (Shape tlid rtsq pairs) = codes ", type 2, tlid " ++ decimal tlid
record_text (Sides tlid start_cell end_cell left right) = codes ", type I, tlid " ++ decimal tlid
record_text (PolyPoint key point) = codes ", type P, polygon " ++ key_text key
record_text (Landmark land point) = codes ", type 7, land " ++ decimal land
record_text (AreaLink key land) = codes ", type 8, polygon " ++ key_text key ++ codes " land " ++ decimal land

-- where in its record an end of a segment is
abbrev pub part_text : Part → List ℕ
part_text Start = codes "start"
part_text (Pair n) = codes "pair " ++ decimal n
part_text End = codes "end"

-- the one end, or both
abbrev pub parts_text : Part → Option Part → List ℕ
parts_text part None = part_text part
parts_text (Pair m) (Some (Pair n)) = codes "pairs " ++ decimal m ++ codes " and " ++ decimal n
parts_text part (Some other) = part_text part ++ codes " and " ++ part_text other

-- the ends that a record holds of the segment that is spoken of, and that segment, where one is
abbrev pub ends_text : Option SegmentEnds → List ℕ
ends_text None = []
ends_text (Some ends) = codes ", " ++ parts_text ends.part ends.other ++ codes ", segment " ++ decimal ends.segment ++ codes " of its chain"

-- a place in decimal degrees, where it can be printed
abbrev pub at_text : Option Rational → List ℕ
at_text None = []
at_text (Some at) = if is_in_reach at then codes ", at " ++ location_text at else []

-- a line of all files as one text, by its number in that text
abbrev pub number_text : ℕ → List ℕ
number_text number = codes "line " ++ decimal number ++ codes " of all files"

-- a line's file and its number there, of a place among files with these names
abbrev pub named_text : List (List ℕ) → ℕ → ℕ × ℕ → List ℕ
named_text names number place = option_map_or (λ name. shown_name name ++ codes " line " ++ decimal place.1) (slice_get names place.0) (number_text number)

-- a line of all files as one text, by its file and its number there, where the files have so many lines
abbrev pub where_text : List (List ℕ) → List ℕ → ℕ → List ℕ
where_text names counts number = option_map_or (named_text names number) (place_of counts number) (number_text number)

-- the line of a record that a fault at this place speaks of, of files with these names and so many lines each
abbrev pub record_line_text : List (List ℕ) → List ℕ → Option Rational → RecordLine → List ℕ
record_line_text names counts at line = codes "  " ++ where_text names counts line.line ++ record_text line.holds ++ ends_text line.ends ++ at_text at ++ codes "\n"

-- the lines of records one after the other
abbrev pub record_lines_text : List (List ℕ) → List ℕ → Option Rational → List RecordLine → List ℕ
record_lines_text names counts at [] = []
record_lines_text names counts at (line ∷ rest) = record_line_text names counts at line ++ record_lines_text names counts at rest

-- the lines about a subject, where there is one
abbrev pub lines_for : (Subject → List RecordLine) → Option Subject → List RecordLine
lines_for about None = []
lines_for about (Some subject) = about subject

-- the records that hold the ends of this segment of the chain with this TLID
abbrev pub segment_spoken : List MapChain → (Subject → List RecordLine) → ℕ → ℕ → List RecordLine
segment_spoken chains about tlid segment = segment_lines (about (Drawn tlid)) (segment_within chains segment)

-- the records that a fault speaks of, by what it is about: those about its first subject and those about its second; of two segments that
-- meet those that hold their ends
abbrev pub spoken_of : List MapChain → (Subject → List RecordLine) → About → List RecordLine × List RecordLine
spoken_of chains about (Meet meet) = (segment_spoken chains about meet.tlid meet.s, segment_spoken chains about meet.other meet.t)
spoken_of chains about it = (lines_for about (subjects_about chains it).0, lines_for about (subjects_about chains it).1)

-- the lines of the records that a fault at this place speaks of
abbrev pub spoken_text : List (List ℕ) → List ℕ → List MapChain → (Subject → List RecordLine) → Option Rational → About → List ℕ
spoken_text names counts chains about at it =
    record_lines_text names counts at (spoken_of chains about it).0 ++ record_lines_text names counts at (spoken_of chains about it).1

-- a fault, and the records that it speaks of
abbrev pub placed_fault_text : List (List ℕ) → List ℕ → List MapChain → (Subject → List RecordLine) → Option Rational → MapFault → List ℕ
placed_fault_text names counts chains about at fault = line_of (map_fault_text fault) ++ spoken_text names counts chains about at (row fault).2

-- faults one after the other, each with its records; the first lies at the place with this number
abbrev pub placed_faults_text : List (List ℕ) → List ℕ → List MapChain → (Subject → List RecordLine) → List (Option Rational) → ℕ → List MapFault → List ℕ
placed_faults_text names counts chains about places n [] = []
placed_faults_text names counts chains about places n (fault ∷ rest) =
    placed_fault_text names counts chains about (place_at places n) fault ++ placed_faults_text names counts chains about places (n + 1) rest

-- what is printed of a list: its first item alone, or all of it, or so many from the front
abbrev pub chosen : {A : Type 0} → Told → List A → List A
chosen One list = take 1 list
chosen (All most skips) list = printed most list

-- behind the faults, where all are told: how many polygons are touched, and how many faults there are
abbrev pub end_text : Told → ℕ → ℕ → List ℕ
end_text One count touched = []
end_text (All most skips) count touched = touched_text touched ++ count_line (codes "faults=") most count

-- the first fault, or all, or so many from the front, each with its place and its records; and where all are told, how many there are
abbrev pub placed_text : List (List ℕ) → List ℕ → List MapChain → (Subject → List RecordLine) → List (Option Rational) → Told → List MapFault → ℕ → List ℕ
placed_text names counts chains about places told faults touched =
    placed_faults_text names counts chains about places 0 (chosen told faults) ++ end_text told (length faults) touched
