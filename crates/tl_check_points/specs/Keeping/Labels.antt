-- The labels of active segments.
use Rattle.std.specs.Prelude.{◌≡◌, ℕ, ◌≤◌, List, [], ◌∷◌, ◌++◌, slice_index}
use Rattle.tl_map_county.specs.TheMap.{MapChain}
use Rattle.tl_tree_index.specs.Hits.{times}
use Rattle.tl_check_inside.specs.Keeping.Tallies.{flanks_in}
use Rattle.tl_check_points.specs.declared.labels.Gap.{Gap}
use Rattle.tl_check_points.specs.declared.labels.Labels.{Labels}
use Rattle.tl_check_points.specs.Keeping.Ways.{TellGap}

-- the label of each segment of a list is a gap that tells of it and of all behind it
abbrev pub AreLabelled : ℕ → List MapChain → List Gap → (labels list : List ℕ) → Type 0
AreLabelled n chains gaps labels [] = Unit {0}
AreLabelled n chains gaps labels (s ∷ rest) =
    TellGap n gaps (slice_index labels s) (flanks_in chains (s ∷ rest)) × AreLabelled n chains gaps labels rest

-- no number stands there twice
abbrev pub IsOnce : List ℕ → Type 0
IsOnce list = (s : ℕ) → times s list ≤ 1

-- these segments have entered: all others have their labels, and if these stand before what was labelled, all of it is
pub record HasEntered (n : ℕ) (chains : List MapChain) (old new : Labels) (list : List ℕ) (east g : ℕ) : Type 0 where
  pub others : (t : ℕ) → times t list ≡ 0 → slice_index new.labels.items t ≡ slice_index old.labels.items t
  pub labelled : (back : List ℕ) → IsOnce (list ++ back) → AreLabelled n chains old.gaps.items old.labels.items back →
      TellGap n old.gaps.items east (flanks_in chains back) →
      AreLabelled n chains new.gaps.items new.labels.items (list ++ back) × TellGap n new.gaps.items g (flanks_in chains (list ++ back))
