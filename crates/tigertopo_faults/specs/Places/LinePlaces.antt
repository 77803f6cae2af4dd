-- In which of several texts a line of them as one text stands. Lines count from 1, texts from 0.
use Rattle.std.specs.Prelude.{◌≡◌, ℕ, zero, suc, ◌+◌, ◌-◌, nat_le, List, [], ◌∷◌, ◌++◌, Option, None, Some, option_map, length, map, sum, take, slice_get, if◌then◌else◌}
use Rattle.tl_record.specs.Lines.{raw_lines}
use Rattle.tigertopo_files.specs.Joining.{joined}
use Rattle.tigertopo_faults.specs.declared.places.place.TextLine.{TextLine}

-- the raw line with this number, where there is one
abbrev pub line_at : ℕ → List (List ℕ) → Option (List ℕ)
line_at zero lines = None
line_at (suc before) lines = slice_get lines before

-- how many raw lines a text has
abbrev pub line_count : List ℕ → ℕ
line_count text = length (raw_lines text)

-- the raw lines of all texts, one after the other
abbrev pub lines_of_all : List (List ℕ) → List (List ℕ)
lines_of_all [] = []
lines_of_all (text ∷ rest) = raw_lines text ++ lines_of_all rest

-- the same place, one text on
abbrev pub text_on : ℕ × ℕ → ℕ × ℕ
text_on place = (place.0 + 1, place.1)

-- the number of the text that has a line, and the line's number there, of texts that have so many lines each
abbrev pub place_of : List ℕ → ℕ → Option (ℕ × ℕ)
place_of [] number = None
place_of (count ∷ counts) number = if nat_le number count then Some (0, number) else option_map text_on (place_of counts (number - count))

-- a place as a pair
abbrev pub place_pair : TextLine → ℕ × ℕ
place_pair place = (place.text, place.line)

-- the line with this number of the texts as one text is that line of that text; or there is none
abbrev pub StandsAt : List (List ℕ) → ℕ → Option (ℕ × ℕ) → Type 0
StandsAt texts number None = line_at number (raw_lines (joined texts)) ≡ None
StandsAt texts number (Some place) =
    (text : List ℕ) × (line : List ℕ) × (slice_get texts place.0 ≡ Some text) × (line_at place.1 (raw_lines text) ≡ Some line)
    × (line_at number (raw_lines (joined texts)) ≡ Some line) × (sum (take place.0 (map line_count texts)) + place.1 ≡ number)
