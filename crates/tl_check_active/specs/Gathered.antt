-- The segments that begin and end at one height.
use Rattle.std.specs.Prelude.{◌≡◌, ◌≢◌, ℕ, ◌<◌, ◌≤◌, ℤ, pos, ◌+ℤ◌, List, length, count_by, slice_index_or, All}
use Rattle.tl_geom.specs.declared.point.Point.{Point}
use Rattle.tl_tree_index.specs.Hits.{times}
use Rattle.tl_check_active.specs.declared.events.Event.{Event}
use Rattle.tl_check_planar.specs.ByHeight.Heights.{height, widest}
use Rattle.tl_check_active.specs.Events.{begins_at, ends_at, joined, between, before}

-- the first event of a place, if there is one, isn't at this height
abbrev pub IsNotAt : ℤ → List (List Event) → ℕ → Type 0
IsNotAt h events place = (d : Event) → place < length events → (slice_index_or (joined events) (before place events) d).height ≢ h

-- it isn't at the height of a point
abbrev pub IsElsewhere : Point → List (List Event) → ℕ → Type 0
IsElsewhere p events place = IsNotAt (height widest p +ℤ pos 2147483647) events place

-- the events from one place up to another are at one height, and the next one isn't; and these are the segments that end there and begin
-- there
pub record AreGathered (events : List (List Event)) (from to : ℕ) (outs ins : List ℕ) : Type 0 where
  pub past : from < to
  pub within : to ≤ length events
  pub some : 0 < length (between from to events)
  pub height_is : ℤ
  pub level : All (λ e. e.height ≡ height_is) (between from to events)
  pub beyond : IsNotAt height_is events to
  pub off : (s : ℕ) → times s outs ≡ count_by (ends_at s) (between from to events)
  pub on : (s : ℕ) → times s ins ≡ count_by (begins_at s) (between from to events)
