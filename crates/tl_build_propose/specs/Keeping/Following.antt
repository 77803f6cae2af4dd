-- Walks that go by a list, which has of each dart the one that follows it.
use Rattle.std.specs.Prelude.{◌≡◌, ℕ, Bool, ◌<◌, List, [], length, slice_index}
use Rattle.std.specs.List.{concat}
use Rattle.tl_map_county.specs.Darts.{reverse_dart}
use Rattle.tl_tree_index.specs.Keeping.Marked.{mark_at}
use Rattle.tl_check_sides.specs.Lists.{before, EachList}
use Rattle.tl_check_sides.specs.declared.headed.HeadedDart.{HeadedDart}
use Rattle.tl_build_propose.specs.Keeping.Lists.{darts_in}
use Rattle.tl_build_propose.specs.Keeping.Sorting.{AreSorted, AreCut}

-- no two places of the list have one dart
abbrev pub IsOneToOne : List ℕ → Type 0
IsOneToOne following = (a b : ℕ) → a < length following → b < length following → slice_index following a ≡ slice_index following b → a ≡ b

-- of each dart of the round, its reverse has behind it the dart before it in the round, and that of the first the last
abbrev pub IsLinkedIn : List ℕ → List ℕ → Type 0
IsLinkedIn following round = (k : ℕ) → k < length round → slice_index following (reverse_dart (slice_index round k)) ≡ before round k

-- the list is linked along rounds that are the darts together, and are cut of them where they are sorted
pub record IsLinkedBy (starts : List HeadedDart) (following : List ℕ) : Type 0 where
  pub rounds : List (List ℕ)
  pub whole : concat rounds ≡ darts_in starts
  pub linked : EachList (IsLinkedIn following) rounds
  pub cut : AreSorted starts → AreCut starts [] rounds

-- the dart follows one that is taken
pub record FollowsTaken (following : List ℕ) (taken : List Bool) (x : ℕ) : Type 0 where
  pub dart : ℕ
  pub within : dart < length following
  pub is_taken : mark_at taken dart ≡ 1
  pub leads : slice_index following dart ≡ x

-- each dart that is taken follows one that is
abbrev pub AreFollowed : List ℕ → List Bool → Type 0
AreFollowed following taken = (x : ℕ) → mark_at taken x ≡ 1 → FollowsTaken following taken x

-- each dart of the walk follows the one before it, and the first the last
abbrev pub GoesBy : List ℕ → List ℕ → Type 0
GoesBy following walk = (k : ℕ) → k < length walk → slice_index walk k ≡ slice_index following (before walk k)
