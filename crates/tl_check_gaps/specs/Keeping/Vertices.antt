-- Events in order, and those that may be at one point.
use Rattle.std.specs.Prelude.{◌≡◌, ℕ, ◌+◌, ◌-◌, ◌<◌, ◌≤ℤ◌, Option, Some, List, [], length, slice_index_or}
use Rattle.tl_map_county.specs.TheMap.{MapChain}
use Rattle.tl_check_active.specs.declared.events.Event.{Event}
use Rattle.tl_check_active.specs.Events.{one_or_two}
use Rattle.tl_check_active.specs.Vertices.{MayMeet}

-- an event isn't higher than the next, and if it is as high they may meet
pub record AreInOrder (chains : List MapChain) (e f : Event) : Type 0 where
  pub rising : e.height ≤ℤ f.height
  pub meets : e.height ≡ f.height → MayMeet chains e f

-- it is so of the first n events
abbrev pub AreInOrderUpTo : List MapChain → ℕ → List Event → Type 0
AreInOrderUpTo chains n events = (k : ℕ) (d : Event) → k + 1 < n → AreInOrder chains (slice_index_or events k d) (slice_index_or events (k + 1) d)

-- the event is the last of these
pub record IsLast (e : Event) (events : List Event) : Type 0 where
  pub some : 0 < length events
  pub is : (d : Event) → e ≡ slice_index_or events (length events - 1) d

-- of the events in lists the last one before a place and the first one there are in order
pub record IsInOrderAt (chains : List MapChain) (lists : List (List Event)) (k : ℕ) : Type 0 where
  pub last : Event
  pub is_last : IsLast last (slice_index_or lists (k - 1) [])
  pub first : Event
  pub second : Option Event
  pub are : slice_index_or lists k [] ≡ one_or_two first second
  pub level : (f : Event) → second ≡ Some f → first.height ≡ f.height
  pub order : AreInOrder chains last first
