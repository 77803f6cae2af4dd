-- How bytes of a line are shown.
use Rattle.std.specs.Prelude.{ℕ, ◌-◌, ◌==◌, ◌&&◌, not, nat_le, Bool, List, [], ◌∷◌, ◌++◌, take, drop, if◌then◌else◌}
use Rattle.tl_record.specs.Range.{Range}
use Rattle.tl_record.specs.Fields.{width_of}
use Rattle.tigertopo_words.specs.Names.{escaped_byte}

-- is a byte shown as itself: printable ASCII, but for the backquote and the backslash
abbrev pub is_plain : ℕ → Bool
is_plain byte = (nat_le 32 byte && nat_le byte 126) && (not (byte == 96) && not (byte == 92))

-- a byte as it is shown: itself, or escaped
abbrev pub shown_byte : ℕ → List ℕ
shown_byte byte = if is_plain byte then byte ∷ [] else escaped_byte byte

-- bytes as they are shown, one after the other
abbrev pub shown_bytes : List ℕ → List ℕ
shown_bytes [] = []
shown_bytes (byte ∷ rest) = shown_byte byte ++ shown_bytes rest

-- the bytes of a line at columns, as far as it has them
abbrev pub bytes_at : List ℕ → Range → List ℕ
bytes_at line columns = take (width_of columns) (drop (columns.first - 1) line)
