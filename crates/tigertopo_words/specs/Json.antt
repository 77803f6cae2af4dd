-- Strings of JSON.
use Rattle.std.specs.Prelude.{ℕ, ◌/◌, ◌%◌, ◌==◌, nat_lt, if◌then◌else◌, List, [], ◌∷◌, ◌++◌, codes}
use Rattle.std.specs.List.{flat_map}
use Rattle.tigertopo_words.specs.Names.{hex_digit}

-- a character below 256 by its number
abbrev pub numbered : ℕ → List ℕ
numbered b = codes "\\u00" ++ (hex_digit (b / 16) ∷ hex_digit (b % 16) ∷ [])

-- a byte of a string: a quotation mark and a backslash stand behind a backslash, and a control character is written by its number
abbrev pub string_byte : ℕ → List ℕ
string_byte b =
    if b == 34 then codes "\\\"" else (
    if b == 92 then codes "\\\\" else (
    if nat_lt b 32 then numbered b else b ∷ []))

-- a text as a string
unfoldable pub string_text : List ℕ → List ℕ
string_text text = codes "\"" ++ flat_map string_byte text ++ codes "\""

-- a byte that may be of no text: it stands for the character of its number
abbrev pub byte_character : ℕ → List ℕ
byte_character b = if nat_lt b 127 then string_byte b else numbered b

-- bytes that may be no text as a string
unfoldable pub bytes_text : List ℕ → List ℕ
bytes_text bytes = codes "\"" ++ flat_map byte_character bytes ++ codes "\""
