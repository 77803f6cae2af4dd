-- How a word is typed, so that a shell takes it as it is.
use Rattle.std.specs.Prelude.{◌==◌, ◌&&◌, ◌||◌, nat_le, ℕ, Bool, List, [], ◌∷◌, ◌++◌, length, not, codes, if◌then◌else◌}
use Rattle.std.specs.List.{list_all}
use Rattle.tigertopo_words.specs.Names.{escaped_byte, is_shown, told_behind}

-- does a byte mean nothing to a shell but itself: a letter, a digit, or one of `%+,-./:=@_`
abbrev pub is_bare : ℕ → Bool
is_bare byte =
    ((nat_le 43 byte && nat_le byte 58) || (nat_le 64 byte && nat_le byte 90))
    || ((nat_le 97 byte && nat_le byte 122) || (byte == 37 || byte == 61 || byte == 95))

-- a byte between quotation marks, which stands between these two: a quotation mark and what isn't shown stand outside of them
abbrev pub quoted_byte : (before byte after : ℕ) → List ℕ
quoted_byte before byte after =
    if byte == 39 then codes "'\\''" else if byte == 92 || is_shown before byte after then byte ∷ [] else codes "'$'" ++ escaped_byte byte ++ codes "''"

-- does a word mean nothing to a shell but itself
abbrev pub is_bare_word : List ℕ → Bool
is_bare_word word = not (length word == 0) && list_all is_bare word

-- a word between quotation marks
abbrev pub quoted_word : List ℕ → List ℕ
quoted_word word = codes "'" ++ told_behind quoted_byte 0 word ++ codes "'"

-- a word as it is typed
abbrev pub shell_word : List ℕ → List ℕ
shell_word word = if is_bare_word word then word else quoted_word word
