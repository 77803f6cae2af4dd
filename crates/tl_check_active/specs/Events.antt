-- The events of a sweep: each segment begins at its low end and ends at its high end.
use Rattle.std.specs.Prelude.{◌≡◌, ℕ, ◌<◌, ◌≤◌, ◌==◌, Bool, true, false, not, ◌&&◌, pos, ◌+ℤ◌, ◌≤ℤ◌, ◌-◌, if◌then◌else◌, Option, None, Some, List, [], ◌∷◌, ◌++◌, length, take, drop, count_by, slice_index_or, All}
use Rattle.tl_geom.specs.declared.point.Point.{Point}
use Rattle.tl_geom.specs.declared.segment.Segment.{Segment}
use Rattle.tl_map_county.specs.TheMap.{MapChain}
use Rattle.tl_map_county.specs.Segments.{segments_before}
use Rattle.tl_check_active.specs.declared.events.Event.{Event}
use Rattle.tl_check_active.specs.Vertices.{MayMeet}
use Rattle.tl_check_planar.specs.ByHeight.Heights.{height, widest, low_end, high_end}
use Rattle.tl_check_planar.specs.ByHeight.Neighbours.{IsNumbered}

-- the end of its segment that an event is at
abbrev pub end_at : Event → Segment → Point
end_at e segment = if e.first then segment.a else segment.b

-- the event tells of an end of its segment: its height, and whether it is the low one
pub record IsEvent (chains : List MapChain) (e : Event) : Type 0 where
  pub segment : Segment
  pub is : IsNumbered chains e.segment segment
  pub height_is : e.height ≡ height widest (end_at e segment) +ℤ pos 2147483647
  pub low : e.begins ≡ true → end_at e segment ≡ low_end widest segment
  pub high : e.begins ≡ false → end_at e segment ≡ high_end widest segment

-- segment s begins there, or ends there
abbrev pub begins_at : ℕ → Event → Bool
begins_at s e = e.begins && (e.segment == s)

abbrev pub ends_at : ℕ → Event → Bool
ends_at s e = not e.begins && (e.segment == s)

-- the events of the first n segments, each of which begins once and ends once
pub record AreEventsOf (chains : List MapChain) (n : ℕ) (events : List Event) : Type 0 where
  pub each : All (IsEvent chains) events
  pub begun : (s : ℕ) → s < n → count_by (begins_at s) events ≡ 1
  pub ended : (s : ℕ) → s < n → count_by (ends_at s) events ≡ 1
  pub no_more : (s : ℕ) → n ≤ s → (count_by (begins_at s) events ≡ 0) × (count_by (ends_at s) events ≡ 0)

-- those of all segments
abbrev pub AreEvents : List MapChain → List Event → Type 0
AreEvents chains events = AreEventsOf chains (segments_before chains (length chains)) events

-- none is higher than a later one
abbrev pub AreEventsRising : List Event → Type 0
AreEventsRising events = (k l : ℕ) (d : Event) → k ≤ l → l < length events → (slice_index_or events k d).height ≤ℤ (slice_index_or events l d).height

-- events one after the other, of lists of them
abbrev pub joined : List (List Event) → List Event
joined [] = []
joined (group ∷ groups) = group ++ joined groups

-- those of the lists from one place up to another
abbrev pub between : (from to : ℕ) → List (List Event) → List Event
between from to groups = joined (take (to - from) (drop from groups))

-- how many events stand in the lists before a place
abbrev pub before : ℕ → List (List Event) → ℕ
before from groups = length (joined (take from groups))

-- ---- those at one place

-- an event, and another one where there is one
abbrev pub one_or_two : Event → Option Event → List Event
one_or_two e None = e ∷ []
one_or_two e (Some f) = e ∷ f ∷ []

-- some events, at the height of a point
pub record AreAt (p : Point) (events : List Event) : Type 0 where
  pub some : 0 < length events
  pub level : All (λ e. e.height ≡ height widest p +ℤ pos 2147483647) events

-- where they are two, they may be at one point
abbrev pub AreMet : List MapChain → List Event → Type 0
AreMet chains events = (e f : Event) → events ≡ e ∷ f ∷ [] → MayMeet chains e f
