-- Bytes that aren't shown as they are, and names of files as they are shown.
use Rattle.std.specs.Prelude.{◌==◌, ◌&&◌, ◌+◌, ◌/◌, ◌%◌, nat_le, nat_lt, ℕ, Bool, List, [], ◌∷◌, ◌++◌, not, slice_index, if◌then◌else◌}

-- the digit of a number below 16, as it is printed
abbrev pub hex_digit : ℕ → ℕ
hex_digit n = if nat_lt n 10 then 48 + n else 87 + n

-- a byte that isn't shown as itself: `\x` and its two hexadecimal digits
abbrev pub escaped_byte : ℕ → List ℕ
escaped_byte byte = 92 ∷ 120 ∷ hex_digit (byte / 16) ∷ hex_digit (byte % 16) ∷ []

-- are two bytes, one behind the other, a control character from U+0080 to U+009F
abbrev pub is_late_control : (first second : ℕ) → Bool
is_late_control first second = first == 194 && (nat_le 128 second && nat_lt second 160)

-- is a byte of a file's name shown as itself, between these two: it is no control character and no part of one, and not the backslash
abbrev pub is_shown : (before byte after : ℕ) → Bool
is_shown before byte after =
    (nat_le 32 byte && (not (byte == 127) && not (byte == 92))) && (not (is_late_control before byte) && not (is_late_control byte after))

-- a byte of a name between these two, as it is shown
abbrev pub shown_between : (before byte after : ℕ) → List ℕ
shown_between before byte after = if is_shown before byte after then byte ∷ [] else escaped_byte byte

-- bytes that stand behind one, each told by what stands on both of its sides, and 0 past the end
abbrev pub told_behind : ((before byte after : ℕ) → List ℕ) → ℕ → List ℕ → List ℕ
told_behind tell before [] = []
told_behind tell before (byte ∷ rest) = tell before byte (slice_index rest 0) ++ told_behind tell byte rest

-- a file's name as it is shown, so that it stands on one line and no two names are shown alike
abbrev pub shown_name : List ℕ → List ℕ
shown_name name = told_behind shown_between 0 name
