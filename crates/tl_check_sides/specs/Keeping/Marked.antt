-- Marks of darts.
use Rattle.std.specs.Prelude.{◌≡◌, ℕ, suc, ◌+◌, ◌≤◌, Bool, if◌then◌else◌, List, [], ◌∷◌, length}
use Rattle.tl_tree_index.specs.Hits.{times}
use Rattle.tl_tree_index.specs.Keeping.Marked.{mark_at}
use Rattle.tl_check_sides.specs.declared.marks.MarkFault.{MarkFault}
use Rattle.tl_check_sides.specs.declared.marks.MarkFault.TheVariants.{Unknown, Twice}
use Rattle.tl_check_sides.specs.Lists.{times_in}

-- how many are marked
abbrev pub marked_count : List Bool → ℕ
marked_count [] = 0
marked_count (b ∷ marks) = if b then suc (marked_count marks) else marked_count marks

-- new marks the darts of xs beside those that old marks: none of them was marked, and none stands in xs twice
pub record AddMarks (old : List Bool) (xs : List ℕ) (new : List Bool) : Type 0 where
  pub long : length new ≡ length old
  pub marked : (d : ℕ) → mark_at new d ≡ mark_at old d + times d xs
  pub count : marked_count new ≡ marked_count old + length xs

-- why darts can't be marked
abbrev pub IsMarkFault : List Bool → List ℕ → MarkFault → Type 0
IsMarkFault old xs (Unknown d) = (length old ≤ d) × (1 ≤ times d xs)
IsMarkFault old xs (Twice d) = 2 ≤ mark_at old d + times d xs

-- the marks of n darts say which of them stand in the lists, each of them once and nothing else
pub record MarkLists (n : ℕ) (lists : List (List ℕ)) (marks : List Bool) : Type 0 where
  pub long : length marks ≡ n
  pub marked : (d : ℕ) → mark_at marks d ≡ times_in d lists
