-- The ends of segments as they are kept, and the events that they are.
use Rattle.std.specs.Prelude.{◌≡◌, ℕ, ◌+◌, ◌<◌, ◌/◌, ◌%◌, ◌==◌, Bool, true, false, not, pos, ◌+ℤ◌, ◌≤ℤ◌, int_lt, if◌then◌else◌, List, [], ◌∷◌, ◌++◌, length, slice_index_or, map, All}
use Rattle.tl_geom.specs.declared.segment.Segment.{Segment}
use Rattle.tl_geom.specs.Plane.{end_a, end_b}
use Rattle.tl_map_county.specs.TheMap.{MapChain}
use Rattle.tl_map_county.specs.Segments.{IsSegmentOf}
use Rattle.tl_check_active.specs.declared.events.End.{End}
use Rattle.tl_check_active.specs.declared.events.Event.{Event}
use Rattle.tl_check_planar.specs.ByHeight.Heights.{height, widest}
use Rattle.tl_check_planar.specs.ByHeight.Neighbours.{IsNumbered}
use Rattle.tl_check_active.specs.Events.{AreEventsOf, AreMet, joined}
use Rattle.tl_check_active.specs.Ranges.{IsInRange}

-- the event at the first end of a segment with this number, or at its last
abbrev pub event_by : ℕ → Bool → Segment → Event
event_by s true u = record { height = height widest u.a +ℤ pos 2147483647; segment = s; begins = int_lt (height widest u.a) (height widest u.b); first = true }
event_by s false u = record { height = height widest u.b +ℤ pos 2147483647; segment = s; begins = not (int_lt (height widest u.a) (height widest u.b)); first = false }

-- the event at an end
abbrev pub event_at : End → Event
event_at e = record { height = height widest e.point +ℤ pos 2147483647; segment = e.number / 16; begins = e.number / 2 % 2 == 1; first = e.number % 2 == 1 }

-- at a bend of a chain, the event at the first end of the next segment
abbrev pub next_at : End → Event
next_at e = record { height = height widest e.point +ℤ pos 2147483647; segment = e.number / 16 + 1; begins = e.number / 4 % 2 == 1; first = true }

-- the events at what is kept
abbrev pub events_at : End → List Event
events_at e = if e.number / 8 % 2 == 1 then event_at e ∷ next_at e ∷ [] else event_at e ∷ []

-- those of all that is kept, apart by what they are kept in
abbrev pub events_in : List End → List (List Event)
events_in ends = map events_at ends

-- none is higher than the next
abbrev pub AreEndsRising : List End → Type 0
AreEndsRising ends =
    (k : ℕ) (d : End) → k + 1 < length ends → height widest (slice_index_or ends k d).point ≤ℤ height widest (slice_index_or ends (k + 1) d).point

-- what comes behind the events of the first n segments: nothing, or the event at the first end of the next one
abbrev pub IsBegun : List MapChain → ℕ → Bool → (events listed : List Event) → Type 0
IsBegun chains n false events listed = listed ≡ events
IsBegun chains n true events listed = (u : Segment) × IsNumbered chains n u × (listed ≡ events ++ event_by n true u ∷ [])

-- the ends of the first n segments, and perhaps the first one of the next
pub record AreListed (chains : List MapChain) (n : ℕ) (begun : Bool) (ends : List End) : Type 0 where
  pub events : List Event
  pub are : AreEventsOf chains n events
  pub listed : IsBegun chains n begun events (joined (events_in ends))
  pub ranges : (s : ℕ) (u : Segment) → s < n → IsNumbered chains s u → IsInRange u.a × IsInRange u.b
  pub met : All (AreMet chains) (events_in ends)

-- the segment has the next number, is of the same chain, and begins where the other ends
pub record IsNextAlong (chains : List MapChain) (s : ℕ) (segment next : Segment) : Type 0 where
  pub is : IsNumbered chains (s + 1) next
  pub c : ℕ
  pub one : (k : ℕ) × IsSegmentOf chains s c k
  pub other : (k : ℕ) × IsSegmentOf chains (s + 1) c k
  pub at : end_b segment ≡ end_a next
