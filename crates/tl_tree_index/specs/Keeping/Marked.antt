-- Marks of the items met so far.
use Rattle.std.specs.Prelude.{◌≡◌, ℕ, ◌+◌, Bool, false, List, length, slice_index_or, if◌then◌else◌}
use Rattle.tl_tree_index.specs.Fits.{AreBelow}
use Rattle.tl_tree_index.specs.Hits.{times}

-- 1 where item i is marked, else 0
abbrev pub mark_at : List Bool → ℕ → ℕ
mark_at marks i = if slice_index_or marks i false then 1 else 0

-- new marks the items of xs beside those that old marks: none of them was marked, and none stands in xs twice
pub record AreMarked (old : List Bool) (xs : List ℕ) (new : List Bool) : Type 0 where
  pub complete : length new ≡ length old
  pub known : AreBelow (length old) xs
  pub marked : (i : ℕ) → mark_at new i ≡ mark_at old i + times i xs
