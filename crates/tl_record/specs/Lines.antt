-- A text and its lines. A text and a raw line are lists of bytes.
use Rattle.std.specs.Prelude.{◌≡◌, ◌≢◌, ◌⊎◌, ℕ, ◌-◌, ◌==◌, List, [], ◌∷◌, ◌++◌, length, take, slice_index, if◌then◌else◌}
use Rattle.std.specs.List.{count_by}

-- the line feed, which ends a line
abbrev pub line_feed : ℕ
line_feed = 10

-- the carriage return, of which one at a line's end is dropped
abbrev pub carriage_return : ℕ
carriage_return = 13

-- the lines where a byte stands before the first of them
abbrev pub with_first_byte : ℕ → List (List ℕ) → List (List ℕ)
with_first_byte byte [] = (byte ∷ []) ∷ []
with_first_byte byte (line ∷ lines) = (byte ∷ line) ∷ lines

-- the raw lines of a text: it is split at each line feed, and what follows the last one is a line unless it is empty
abbrev pub raw_lines : List ℕ → List (List ℕ)
raw_lines [] = []
raw_lines (byte ∷ text) = if byte == line_feed then [] ∷ raw_lines text else with_first_byte byte (raw_lines text)

-- how many line feeds stand in a text
abbrev pub line_feeds : List ℕ → ℕ
line_feeds text = count_by (λ byte. byte == line_feed) text

-- the raw lines joined, each with its line feed
abbrev pub joined_lines : List (List ℕ) → List ℕ
joined_lines [] = []
joined_lines (line ∷ lines) = line ++ line_feed ∷ joined_lines lines

-- none of the lines holds a line feed
abbrev pub HoldNoLineFeed : List (List ℕ) → Type 0
HoldNoLineFeed [] = Unit {0}
HoldNoLineFeed (line ∷ lines) = (line_feeds line ≡ 0) × HoldNoLineFeed lines

-- there is a last line, and it isn't empty
abbrev pub EndInBytes : List (List ℕ) → Type 0
EndInBytes [] = ⊥
EndInBytes (line ∷ []) = line ≢ []
EndInBytes (line ∷ next ∷ lines) = EndInBytes (next ∷ lines)

-- A text and raw lines belong together: the lines hold no line feed, and the text is the lines joined, where the line
-- feed behind the last may be missing if that line isn't empty. One list alone belongs to a text, its `raw_lines`.
pub record AreLinesOf (text : List ℕ) (lines : List (List ℕ)) : Type 0 where
  pub inside : HoldNoLineFeed lines
  pub whole : (text ≡ joined_lines lines) ⊎ ((text ++ line_feed ∷ [] ≡ joined_lines lines) × EndInBytes lines)

-- the bytes before the first line feed, or all
abbrev pub first_line : List ℕ → List ℕ
first_line [] = []
first_line (byte ∷ text) = if byte == line_feed then [] else byte ∷ first_line text

-- the bytes after the first line feed
abbrev pub after_first_line : List ℕ → List ℕ
after_first_line [] = []
after_first_line (byte ∷ text) = if byte == line_feed then text else after_first_line text

-- a raw line without one carriage return at its end
abbrev pub content : List ℕ → List ℕ
content line = if slice_index line (length line - 1) == carriage_return then take (length line - 1) line else line
