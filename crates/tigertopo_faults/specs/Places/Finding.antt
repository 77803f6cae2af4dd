-- What looking for a line of a text answers.
use Rattle.std.specs.Prelude.{◌≡◌, ◌≢◌, ℕ, ◌+◌, ◌≤◌, ◌^◌, nat_lt, Bool, true, false, List, [], length, take, drop, Option, None, Some, Result, Ok, Err, ⊤}
use Rattle.tl_record.specs.declared.refusal.RefusalStop.{RefusalStop}
use Rattle.tl_record.specs.declared.refusal.RefusalStop.TheVariants.{Device, Endless}
use Rattle.tl_record.specs.Limits.{most_line_bytes}
use Rattle.tl_record.specs.Lines.{raw_lines, after_first_line}
use Rattle.tigertopo_faults.specs.declared.places.lines.Found.{Found}
use Rattle.tigertopo_faults.specs.declared.places.lines.Found.TheVariants.{Line, Missing}
use Rattle.tigertopo_faults.specs.Places.LinePlaces.{line_at, line_count}

-- what holds of a known text where an answer was had; it is given up where the text has 2^64 - 1 bytes or more
abbrev pub Answers : {T : Type 0} → Option (List ℕ) → (List ℕ → T → Type 0) → Result T RefusalStop → Type 0
Answers None holds answer = ⊤
Answers (Some text) holds (Ok value) = holds text value
Answers (Some text) holds (Err Device) = ⊤
Answers (Some text) holds (Err Endless) = 2 ^ 64 ≤ length text + 1

-- what is found of a line: its first bytes, 1,024 at most, which are the first of a buffer, and whether it has more
abbrev pub Shows : Option (List ℕ) → List ℕ → Found → Type 0
Shows None bytes found = found ≡ Missing
Shows (Some line) bytes Missing = ⊥
Shows (Some line) bytes (Line len goes_on) =
    (len ≤ length bytes) × (take len bytes ≡ take most_line_bytes line) × (goes_on ≡ nat_lt most_line_bytes (length line))

-- what is found of the line with this number
abbrev pub IsFound : ℕ → List ℕ → List ℕ → Found → Type 0
IsFound number bytes text found = Shows (line_at number (raw_lines text)) bytes found

-- where a line is missing, so many lines were passed, and the text has no more
abbrev pub CountsAll : ℕ → List ℕ → Found → Type 0
CountsAll passed text Missing = passed ≡ line_count text
CountsAll passed text (Line len goes_on) = ⊤

-- a buffer has what is found in it
abbrev pub IsWithin : List ℕ → Found → Type 0
IsWithin bytes Missing = ⊤
IsWithin bytes (Line len goes_on) = len ≤ length bytes

-- the first line of a text was taken off, and whether there was one is said; where there was none, nothing is left
abbrev pub Passes : Option (List ℕ) → List ℕ → Bool → Type 0
Passes new text true = (text ≢ []) × (new ≡ Some (after_first_line text))
Passes new text false = (text ≡ []) × (new ≡ Some [])

-- so many lines were taken off a text, where it is known
abbrev pub PassesTo : ℕ → Option (List ℕ) → Option (List ℕ) → Type 0
PassesTo count None now = ⊤
PassesTo count (Some text) None = ⊥
PassesTo count (Some text) (Some rest) = (raw_lines rest ≡ drop count (raw_lines text)) × (count ≤ line_count text) × (count + length rest ≤ length text)
