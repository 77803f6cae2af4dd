-- How the lines of bytes that are read begin.
use Rattle.std.specs.Prelude.{ℕ, ◌==◌, ◌&&◌, ◌||◌, Bool, false, List, [], ◌∷◌}

-- does a line begin in these bytes as a record of type 1 does (49 is '1'), where it is said of the first byte whether it is a line's first
abbrev pub begins_chain : Bool → List ℕ → Bool
begins_chain is_first [] = false
begins_chain is_first (byte ∷ rest) = (is_first && byte == 49) || begins_chain (byte == 10) rest
