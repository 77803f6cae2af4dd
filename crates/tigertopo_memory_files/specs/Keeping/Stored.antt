-- Kept on the way: files in a list, each with its name.
use Rattle.std.specs.Prelude.{ℕ, Bool, nat_eq, if◌then◌else◌, List, [], ◌∷◌, Option, Some, None, string_bytes}
use Rattle.std.specs.Cmp.Lexicographic.{pointwise}
use Rattle.tigertopo_memory_files.specs.declared.in_memory.Stored.{Stored}

-- are these one name
abbrev pub same_name : List ℕ → List ℕ → Bool
same_name n m = pointwise nat_eq n m

-- what is found of a name where one more file was looked at
abbrev pub found_with : List ℕ → Option (List ℕ) → Stored → Option (List ℕ)
found_with name found file = if same_name (string_bytes file.name) name then Some file.bytes.items else found

-- what is found of a name behind what was found before
abbrev pub found_from : List ℕ → Option (List ℕ) → List Stored → Option (List ℕ)
found_from name found [] = found
found_from name found (file ∷ files) = found_from name (found_with name found file) files

-- the bytes of the last file of a name
abbrev pub file_in : List Stored → List ℕ → Option (List ℕ)
file_in files name = found_from name None files
