-- Why files can't be read again.
use Rattle.std.specs.Prelude.{◌⊎◌, ℕ, ◌+◌, ◌≤◌, ◌^◌, Contains, List, length, Option, IfSome}
use Rattle.tigertopo_files.specs.Files.{Under, bytes_under}
use Rattle.tigertopo_files.specs.World.{World, Failed, SomeMissing}

-- a text has no end within 2^64 - 1 bytes, where it is known
abbrev pub HasNoEnd : Option (List ℕ) → Type 0
HasNoEnd known = IfSome known (λ text. 2 ^ 64 ≤ length text + 1)

-- so it is of the file of one of these names
abbrev pub SomeEndless : Under → List (List ℕ) → Type 0
SomeEndless under names = (name : List ℕ) × Contains names name × HasNoEnd (bytes_under under name)

-- a file of one of these names may not be read again: it may be that it can't be opened, or it has no end
abbrev pub SomeUnread : Under → List (List ℕ) → Type 0
SomeUnread under names = SomeMissing under names ⊎ SomeEndless under names

-- the files of these names can't be read again: one may not be opened, a read of one failed, or one has no end
abbrev pub FailsAgain : World → List (List ℕ) → Type 0
FailsAgain w names = Failed w names ⊎ SomeEndless w.before names
