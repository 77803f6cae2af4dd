-- How far a sweep has come.
use Rattle.std.specs.Prelude.{◌≡◌, ℕ, ◌+◌, ◌<◌, ◌≤◌, ℤ, pos, ◌+ℤ◌, ◌<ℤ◌, List, length, take, count_by, slice_index_or}
use Rattle.tl_map_county.specs.TheMap.{MapChain}
use Rattle.tl_tree_index.specs.Hits.{times}
use Rattle.tl_check_active.specs.declared.events.Event.{Event}
use Rattle.tl_check_planar.specs.ByHeight.Heights.{widest}
use Rattle.tl_check_planar.specs.ByHeight.Neighbours.{AreTested, EachTwo}
use Rattle.tl_check_planar.specs.ByHeight.Slabs.{IsListOf}
use Rattle.tl_check_active.specs.Events.{begins_at, ends_at}

-- all events from a place on are above height n
abbrev pub AreAbove : ℤ → ℕ → List Event → Type 0
AreAbove n from events = (k : ℕ) (d : Event) → from ≤ k → k < length events → (n +ℤ pos 2147483647) <ℤ (slice_index_or events k d).height

-- the events before a place are lower than the one there, if there is one
abbrev pub AreBelow : ℕ → List Event → Type 0
AreBelow from events = (k : ℕ) (d : Event) → k < from → from < length events → (slice_index_or events k d).height <ℤ (slice_index_or events from d).height

-- the list after the first events, and that all slabs below the others are tested
pub record IsSwept (chains : List MapChain) (events : List Event) (from : ℕ) (list : List ℕ) : Type 0 where
  pub within : from ≤ length events
  pub counted : (s : ℕ) → times s list + count_by (ends_at s) (take from events) ≡ count_by (begins_at s) (take from events)
  pub tested : EachTwo (AreTested widest chains) list
  pub slabs : (n : ℤ) → AreAbove n from events → (slab : List ℕ) × IsListOf widest n chains slab
