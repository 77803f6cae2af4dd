-- What is watched of gaps on the way of a sweep.
use Rattle.std.specs.Prelude.{◌≡◌, ◌⊎◌, ℕ, ◌<◌, ℤ, pos, ◌+ℤ◌, ◌<ℤ◌, ◌≤ℤ◌, List, [], length, slice_index_or, All}
use Rattle.tl_geom.specs.declared.point.Point.{Point}
use Rattle.tl_map_county.specs.TheMap.{MapChain}
use Rattle.tl_check_planar.specs.Planar.{IsPlanar}
use Rattle.tl_check_active.specs.declared.events.Event.{Event}
use Rattle.tl_check_planar.specs.ByHeight.Heights.{height, widest}
use Rattle.tl_check_planar.specs.ByHeight.Slabs.{IsListOf}
use Rattle.tl_check_faces.specs.declared.odd.OddGap.{OddGap}
use Rattle.tl_check_faces.specs.Facing.{FacesAgree}
use Rattle.tl_check_faces.specs.Lists.{AreAllNear}
use Rattle.tl_check_faces.specs.Odd.{IsOddGap, IsLowestOddGap}
use Rattle.tl_check_gaps.specs.declared.watch.Gaps.{Gaps}
use Rattle.tl_check_gaps.specs.declared.watch.Gaps.TheVariants as choice
use Rattle.tl_check_gaps.specs.declared.watch.Watch.{Watch}
use Rattle.tl_check_gaps.specs.Gaps.{AreAllOddGaps}
use Rattle.tl_check_gaps.specs.Telling.{IsToldAlong}
use Rattle.tl_check_gaps.specs.Keeping.Swept.{AreAbove}

-- gaps are still told: all were asked for, or none was told
abbrev pub IsOpen : Watch → Type 0
IsOpen watch = (watch.asked ≡ choice.All) ⊎ (watch.told.items ≡ [])

-- the slab has a list of which each gap is told where sides differ, of this slab or a lower one
pub record IsSlabTold (chains : List MapChain) (n : ℤ) (gaps : List OddGap) : Type 0 where
  pub list : List ℕ
  pub listed : IsListOf widest n chains list
  pub told : IsToldAlong chains n list gaps

-- in no slab below the gap do sides differ
abbrev pub IsFirst : List MapChain → OddGap → Type 0
IsFirst chains gap = (n : ℤ) → n <ℤ height widest gap.at → IsSlabTold chains n []

-- all that is told is true, and each slab is told
pub record AreToldOfSlabs (chains : List MapChain) (gaps : List OddGap) : Type 0 where
  pub near : AreAllNear widest chains
  pub true_ones : All (IsOddGap widest chains) gaps
  pub slabs : (n : ℤ) → IsSlabTold chains n gaps

-- the first events are no higher than n
abbrev pub AreReached : ℤ → ℕ → List Event → Type 0
AreReached n from events = (k : ℕ) (d : Event) → k < from → k < length events → (slice_index_or events k d).height ≤ℤ (n +ℤ pos 2147483647)

-- the event at a place, if there is one, is above a point
abbrev pub IsBelowNext : Point → List Event → ℕ → Type 0
IsBelowNext p events place = (d : Event) → place < length events → (height widest p +ℤ pos 2147483647) <ℤ (slice_index_or events place d).height

-- what is told after the first events, with this list: it is true; while gaps are still told, all of the list are, and
-- all of all slabs below the other events; and where only the first are asked for, they are of the lowest slab that has any
pub record IsWatched (chains : List MapChain) (events : List Event) (from : ℕ) (list : List ℕ) (watch : Watch) : Type 0 where
  pub true_ones : All (IsOddGap widest chains) watch.told.items
  pub along : IsOpen watch → (n : ℤ) → AreReached n from events → IsToldAlong chains n list watch.told.items
  pub below : IsOpen watch → (n : ℤ) → AreAbove n from events → IsSlabTold chains n watch.told.items
  pub first : watch.asked ≡ choice.First → All (IsFirst chains) watch.told.items

-- it is so of all slabs
pub record IsWatchedToEnd (chains : List MapChain) (watch : Watch) : Type 0 where
  pub true_ones : All (IsOddGap widest chains) watch.told.items
  pub slabs : IsOpen watch → (n : ℤ) → IsSlabTold chains n watch.told.items
  pub first : watch.asked ≡ choice.First → All (IsFirst chains) watch.told.items

-- what is told of gaps is so: the chains are planar, each is such a gap, and the lowest between its segments, and where none is told faces
-- agree; where all were asked for, these are all
pub record AreTrueGaps (chains : List MapChain) (gaps : Gaps) (told : List OddGap) : Type 0 where
  pub planar : IsPlanar chains
  pub true_ones : All (IsLowestOddGap widest chains) told
  pub agree : told ≡ [] → FacesAgree chains
  pub whole : gaps ≡ choice.All → AreAllOddGaps widest chains told
