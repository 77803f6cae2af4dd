-- Several texts read as one.
use Rattle.std.specs.Prelude.{ℕ, ◌+◌, ◌-◌, ◌^◌, min, Bool, not, ◌==◌, if◌then◌else◌, List, [], ◌∷◌, ◌++◌, Option, Some, option_map}
use Rattle.std.specs.Prelude.{false}
use Rattle.std.specs.Fmt.{option_append}

-- a line feed, which ends a line
abbrev pub line_feed : ℕ
line_feed = 10

-- whether a text leaves its last line open: it isn't empty and its last byte is no line feed. For the empty text that
-- is what the bytes before it say
abbrev pub leaves_open : Bool → List ℕ → Bool
leaves_open before [] = before
leaves_open before (byte ∷ rest) = leaves_open (not (byte == line_feed)) rest

-- a text, and a line feed where it leaves its last line open
abbrev pub closed : Bool → List ℕ → List ℕ
closed before text = text ++ (if leaves_open before text then line_feed ∷ [] else [])

-- the texts one after the other as one text, each with its last line closed
abbrev pub joined : List (List ℕ) → List ℕ
joined [] = []
joined (text ∷ rest) = closed false text ++ joined rest

-- what is still to come of the readers' joined text, where the bytes of each are known. The first reader is somewhere
-- in its text, and `before` says whether what it has given leaves a line open
abbrev pub joined_bytes : {R : Type 0} → (R → Option (List ℕ)) → Bool → List R → Option (List ℕ)
joined_bytes bytes before [] = Some []
joined_bytes bytes before (reader ∷ rest) =
    option_append (option_map (closed before) (bytes reader)) (joined_bytes bytes false rest)

-- how many reads of these sources failed so far, and those before, up to the greatest u64
abbrev pub failures_from : {R : Type 0} → (R → ℕ) → ℕ → List R → ℕ
failures_from failures before [] = before
failures_from failures before (reader ∷ rest) = failures_from failures (min (before + failures reader) (2 ^ 64 - 1)) rest

abbrev pub failures_of : {R : Type 0} → (R → ℕ) → List R → ℕ
failures_of failures readers = failures_from failures 0 readers
