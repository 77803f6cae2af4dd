-- The fields of a line, and what their bytes spell.
use Rattle.std.specs.Prelude.{ℕ, ℤ, pos, ◌-ℤ◌, ◌+◌, ◌-◌, ◌*◌, ◌^◌, ◌<◌, ◌==◌, ◌&&◌, nat_le, Bool, List, [], ◌∷◌, ◌++◌, length, take, drop, replicate, if◌then◌else◌}
use Rattle.std.specs.List.{list_all}
use Rattle.std.specs.Char.{is_ascii_digit}
use Rattle.tl_record.specs.Range.{Range}
use Rattle.tl_record.specs.declared.number.Spelt.{Spelt}
use Rattle.tl_record.specs.declared.number.Spelt.TheVariants.{Blank, Value, Unreadable}

-- the blank, which fills a field and stands for each column past a line's end
abbrev pub blank : ℕ
blank = 32

abbrev pub is_blank : ℕ → Bool
is_blank byte = byte == blank

-- a byte that a CENID may have: from 0x20 to 0x7E
abbrev pub is_cenid_byte : ℕ → Bool
is_cenid_byte byte = nat_le 32 byte && nat_le byte 126

-- how many columns a range has
abbrev pub width_of : Range → ℕ
width_of range = range.last + 1 - range.first

-- the bytes of a line's content at the columns of a range, a blank for each column past its end
abbrev pub field : List ℕ → Range → List ℕ
field line range = take (width_of range) (drop (range.first - 1) line ++ replicate (width_of range) blank)

-- without the blanks at the front
abbrev pub without_leading_blanks : List ℕ → List ℕ
without_leading_blanks [] = []
without_leading_blanks (byte ∷ bytes) = if is_blank byte then without_leading_blanks bytes else byte ∷ bytes

-- without the blanks at the end
abbrev pub without_trailing_blanks : List ℕ → List ℕ
without_trailing_blanks [] = []
without_trailing_blanks (byte ∷ bytes) = if list_all is_blank (byte ∷ bytes) then [] else byte ∷ without_trailing_blanks bytes

-- without the blanks at either end
abbrev pub trimmed : List ℕ → List ℕ
trimmed bytes = without_trailing_blanks (without_leading_blanks bytes)

-- the value of decimal digits, the first of which counts most
abbrev pub decimal : List ℕ → ℕ
decimal [] = 0
decimal (digit ∷ digits) = (digit - 48) * 10 ^ length digits + decimal digits

-- one or more digits and nothing else spell their value
abbrev pub digits_spell : List ℕ → Spelt ℕ
digits_spell [] = Unreadable
digits_spell (byte ∷ bytes) = if list_all is_ascii_digit (byte ∷ bytes) then Value (decimal (byte ∷ bytes)) else Unreadable

-- a value, if one is spelt, is below a limit
abbrev pub IsBelow : ℕ → Spelt ℕ → Type 0
IsBelow limit (Value n) = n < limit
IsBelow limit Blank = Unit {0}
IsBelow limit Unreadable = Unit {0}

-- the same as a whole number, with its sign changed where it stands behind a minus
abbrev pub not_negated : Spelt ℕ → Spelt ℤ
not_negated Blank = Blank
not_negated (Value n) = Value (pos n)
not_negated Unreadable = Unreadable

abbrev pub negated : Spelt ℕ → Spelt ℤ
negated Blank = Blank
negated (Value n) = Value (pos 0 -ℤ pos n)
negated Unreadable = Unreadable

-- what is left of a number's field without the blanks round it: nothing, or digits
abbrev pub unsigned_spells : List ℕ → Spelt ℕ
unsigned_spells [] = Blank
unsigned_spells (byte ∷ bytes) = digits_spell (byte ∷ bytes)

-- what is left of a coordinate's field: nothing, or digits with at most one sign directly before them
abbrev pub signed_spells : List ℕ → Spelt ℤ
signed_spells [] = Blank
signed_spells (byte ∷ bytes) =
    if byte == 45 then negated (digits_spell bytes) else if byte == 43 then not_negated (digits_spell bytes) else not_negated (digits_spell (byte ∷ bytes))

-- what a number's field spells: blanks alone, or digits with blanks before or after them, or neither
abbrev pub number_spelt : List ℕ → Spelt ℕ
number_spelt bytes = unsigned_spells (trimmed bytes)

-- what a longitude's or a latitude's field spells
abbrev pub coordinate_spelt : List ℕ → Spelt ℤ
coordinate_spelt bytes = signed_spells (trimmed bytes)
