-- What a search for a conflict may answer.
use Rattle.std.specs.Prelude.{ℕ, ◌<◌, ◌≤◌, Bool, IsTrue, Option, Some, None, if◌then◌else◌}
use Rattle.tl_geom.specs.declared.rect.Rect.{Rect}
use Rattle.tl_geom.specs.Rectangle.{AreMeeting}
use Rattle.tl_tree_index.specs.declared.items.Search.{Search}
use Rattle.tl_tree_index.specs.declared.items.Search.TheVariants.{Found, Clear, Budget}
use Rattle.tl_tree_index.specs.Pairs.{indices, pair_sum, meeting}

-- the number of pairs of the items 0 to n-1 whose bounds meet
abbrev pub meeting_pairs : (ℕ → Rect) → ℕ → ℕ
meeting_pairs bounds n = pair_sum (meeting bounds) (indices n)

-- the number of pairs i, j of the numbers 0 to n-1, i below j, that are chosen
abbrev pub chosen_pairs : (ℕ → ℕ → Bool) → ℕ → ℕ
chosen_pairs chosen n = pair_sum (λ j i. if chosen i j then 1 else 0) (indices n)

-- i and j are two of the n items, in order, and c is told of their conflict
pub record IsConflict {C : Type 0} (n : ℕ) (tells : ℕ → ℕ → Option C → Type 0) (i j : ℕ) (c : C) : Type 0 where
  pub ordered : i < j
  pub known : j < n
  pub told : tells i j (Some c)

-- no two of the n items conflict, and at most budget pairs have bounds that meet
pub record IsFreeOfConflicts {C : Type 0} (n : ℕ) (bounds : ℕ → Rect) (tells : ℕ → ℕ → Option C → Type 0) (budget : ℕ) : Type 0 where
  pub none : (i j : ℕ) → i < j → j < n → tells i j None
  pub within : meeting_pairs bounds n ≤ budget

-- of these two items the bounds meet, and it is told that they don't conflict
pub record IsFreePair {C : Type 0} (bounds : ℕ → Rect) (tells : ℕ → ℕ → Option C → Type 0) (i j : ℕ) : Type 0 where
  pub meet : AreMeeting (bounds i) (bounds j)
  pub told : tells i j None

-- more pairs of the n items than the budget have bounds that meet; and of those that don't conflict, as many as the budget
-- can be chosen
pub record IsBeyond {C : Type 0} (n : ℕ) (bounds : ℕ → Rect) (tells : ℕ → ℕ → Option C → Type 0) (budget : ℕ) : Type 0 where
  pub more : budget < meeting_pairs bounds n
  pub chosen : ℕ → ℕ → Bool
  pub many : budget ≤ chosen_pairs chosen n
  pub free : (i j : ℕ) → i < j → j < n → IsTrue (chosen i j) → IsFreePair bounds tells i j

-- what a search with this budget may answer
abbrev pub MayAnswer : {C : Type 0} → ℕ → (ℕ → Rect) → (ℕ → ℕ → Option C → Type 0) → ℕ → Search C → Type 0
MayAnswer n bounds tells budget (Found i j c) = IsConflict n tells i j c
MayAnswer n bounds tells budget Clear = IsFreeOfConflicts n bounds tells budget
MayAnswer n bounds tells budget Budget = IsBeyond n bounds tells budget
