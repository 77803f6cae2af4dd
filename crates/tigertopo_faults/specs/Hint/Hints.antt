-- What is said behind a refused line, and behind a device that failed: in which file, where in it, and why.
use Rattle.std.specs.Prelude.{ℕ, List, [], ◌++◌, Option, None, Some, codes, decimal, map, take, slice_get, slice_index, slice_index_or, ◌&&◌, if◌then◌else◌}
use Rattle.std.specs.Option.{option_map_or, option_and_then, is_some}
use Rattle.tl_record.specs.declared.layout.Layout.{Layout}
use Rattle.tl_record.specs.declared.options.Options.{Options}
use Rattle.tl_record.specs.Layout.{layout_with}
use Rattle.tl_record.specs.declared.stop.Field.{Field}
use Rattle.tl_record.specs.declared.stop.Cause.{Cause}
use Rattle.tl_record.specs.declared.stop.Cause.TheVariants.{LineTooLong, Missing, BadField, OutOfRange, TooManyLines}
use Rattle.tl_record.specs.Range.{Range}
use Rattle.tl_record.specs.Limits.{most_line_bytes}
use Rattle.tl_record.specs.Lines.{content, raw_lines}
use Rattle.tl_cert_output.specs.Writing.{line_of}
use Rattle.tigertopo_words.specs.Names.{shown_name}
use Rattle.tigertopo_faults.specs.Places.LinePlaces.{line_at, line_count, place_of}
use Rattle.tigertopo_faults.specs.Places.FieldColumns.{columns_of}
use Rattle.tigertopo_faults.specs.Hint.Shown.{shown_bytes, bytes_at}
use Rattle.tigertopo_faults.specs.Hint.Advice.{Asker, reads_otherwise, otherwise_text, form_of, form_text}
use Rattle.tigertopo_faults.specs.declared.hint.advice.FileForm.{FileForm}

-- the field that a line is refused for, if it is for one
abbrev pub field_of : Cause → Option Field
field_of LineTooLong = None
field_of (Missing field) = Some field
field_of (BadField field) = Some field
field_of (OutOfRange field) = Some field
field_of TooManyLines = None

-- the columns of the field that a line with this content is refused for
abbrev pub columns_for : Layout → List ℕ → Cause → Option Range
columns_for layout line cause = option_and_then (λ field. columns_of layout (slice_index line 0) field) (field_of cause)

-- columns, and what a line holds there
abbrev pub columns_text : List ℕ → Range → List ℕ
columns_text line columns =
    codes ", columns " ++ decimal columns.first ++ codes " to " ++ decimal columns.last ++ codes ": `" ++ shown_bytes (bytes_at line columns) ++ codes "`"

-- a file, one of its lines, and the columns of the field that it is refused for
abbrev pub place_text : Layout → List ℕ → ℕ → List ℕ → Cause → List ℕ
place_text layout name number line cause =
    codes "  " ++ shown_name name ++ codes " line " ++ decimal number ++ option_map_or (columns_text (content line)) (columns_for layout (content line) cause) []

-- the first bytes of a text's first line, as many as a line that is read may have
abbrev pub first_bytes : List ℕ → List ℕ
first_bytes text = option_map_or (take most_line_bytes) (line_at 1 (raw_lines text)) []

-- what is said of other columns, where a line is refused for a field
abbrev pub columns_hint : Options → ℕ → List ℕ → Cause → List ℕ
columns_hint options number line cause = if is_some (field_of cause) && reads_otherwise options number line then otherwise_text options else []

-- what is said of a file that is none of records
abbrev pub form_hint : Asker → List ℕ → Option FileForm → List ℕ
form_hint by name form = option_map_or (form_text name by) form []

-- what is said of a line of a file of this form
abbrev pub line_hint : Asker → List ℕ → ℕ → List ℕ → Cause → Option FileForm → List ℕ
line_hint by name number line cause form =
    line_of (place_text (layout_with by.options) name number line cause) ++ columns_hint by.options number line cause ++ form_hint by name form

-- a line of a text, where it has so many, with the first bytes that it holds, as many as a line that is read may have
abbrev pub hint_in : Asker → List ℕ → List ℕ → Cause → ℕ → List ℕ
hint_in by name text cause number =
    option_map_or (λ line. line_hint by name number (take most_line_bytes line) cause (form_of (first_bytes text))) (line_at number (raw_lines text)) []

-- the line of a place among the texts of these names
abbrev pub hint_at : Asker → List (List ℕ) → List (List ℕ) → Cause → ℕ × ℕ → List ℕ
hint_at by names texts cause place =
    option_map_or (λ text. hint_in by (slice_index_or names place.0 []) text cause place.1) (slice_get texts place.0) []

-- the line of a refusal among the texts of these names
abbrev pub refusal_at : Asker → List (List ℕ) → List (List ℕ) → ℕ × Cause → List ℕ
refusal_at by names texts refusal = option_map_or (hint_at by names texts refusal.1) (place_of (map line_count texts) refusal.0) []

-- a file, and why it can't be opened or read
abbrev pub trouble_text : List ℕ → List ℕ → List ℕ
trouble_text name words = codes "  " ++ shown_name name ++ codes ": " ++ words
