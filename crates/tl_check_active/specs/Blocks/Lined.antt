-- The list of active segments, parted at the place where the sweep is.
use Rattle.std.specs.Prelude.{ℕ, ◌-◌, Option, List, ◌++◌, length, slice_get}

-- what stands west of the place, and what stands east of it
pub record TheLine : Type 0 where
  pub front : List ℕ
  pub back : List ℕ

-- the whole list
abbrev pub list_of : TheLine → List ℕ
list_of line = line.front ++ line.back

-- the last number of a list
abbrev pub last_of : List ℕ → Option ℕ
last_of list = slice_get list (length list - 1)
