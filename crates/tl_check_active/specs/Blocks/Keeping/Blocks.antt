-- The blocks that the list of active segments stands in. One is open, and what stands in its place among them doesn't count.
use Rattle.std.specs.Prelude.{ℕ, ◌<◌, List, [], ◌∷◌, ◌++◌, length, All, Vec}
use Rattle.std.specs.Global.{Global}

-- the numbers of blocks, from west to east
abbrev pub numbers_of : List (Vec ℕ Global) → List ℕ
numbers_of [] = []
numbers_of (block ∷ rest) = block.items ++ numbers_of rest

-- no block is empty
abbrev pub AreSome : List (Vec ℕ Global) → Type 0
AreSome blocks = All (λ block. 0 < length block.items) blocks
