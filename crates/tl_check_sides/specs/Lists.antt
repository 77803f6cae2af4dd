-- Lists of darts, taken round and taken together.
use Rattle.std.specs.Prelude.{◌≡◌, ℕ, zero, suc, ◌<◌, ◌≤◌, ◌-◌, List, [], ◌∷◌, ◌++◌, length, slice_index, slice_index_or}
use Rattle.std.specs.List.{concat}
use Rattle.tl_tree_index.specs.Hits.{times}

-- the one before place k of a list that is taken round: before the first comes the last
abbrev pub before : List ℕ → ℕ → ℕ
before xs zero = slice_index xs (length xs - 1)
before xs (suc k) = slice_index xs k

-- how often a number stands in the lists
abbrev pub times_in : ℕ → List (List ℕ) → ℕ
times_in i lists = times i (concat lists)

-- the lists hold each number below n once, and nothing else
pub record HoldOnce (n : ℕ) (lists : List (List ℕ)) : Type 0 where
  pub once : (i : ℕ) → i < n → times_in i lists ≡ 1
  pub no_other : (i : ℕ) → n ≤ i → times_in i lists ≡ 0

-- the lists, with one more behind them
abbrev pub and_list : List (List ℕ) → List ℕ → List (List ℕ)
and_list lists xs = lists ++ xs ∷ []

-- list k of the lists
abbrev pub list_at : List (List ℕ) → ℕ → List ℕ
list_at lists k = slice_index_or lists k []

-- each list is so
abbrev pub EachList : (List ℕ → Type 0) → List (List ℕ) → Type 0
EachList P lists = (k : ℕ) → k < length lists → P (list_at lists k)
