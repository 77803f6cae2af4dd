-- How far a sweep that labels segments has come.
use Rattle.std.specs.Prelude.{ℕ, List, All, length}
use Rattle.tl_map_county.specs.TheMap.{TheMap}
use Rattle.tl_check_active.specs.declared.events.Event.{Event}
use Rattle.tl_check_active.specs.Events.{before, joined, AreEvents, AreEventsRising}
use Rattle.tl_check_active.specs.Ranges.{AreInRange}
use Rattle.tl_check_gaps.specs.Keeping.Facing.{raised}
use Rattle.tl_check_gaps.specs.Keeping.Swept.{IsSwept}
use Rattle.tl_check_inside.specs.declared.strips.Site.{Site}
use Rattle.tl_check_points.specs.Keeping.Labels.{AreLabelled}
use Rattle.tl_check_points.specs.Keeping.Visits.{IsVisit}
use Rattle.tl_check_points.specs.declared.sweeping.Visited.{Visited}

-- all points that were visited lie in their gaps
abbrev pub AreVisits : List Site → Visited → TheMap → Type 0
AreVisits sites notes m = All (IsVisit (length m.polygons) m.chains sites notes.labels.gaps.items) notes.visits.items

-- how far the sweep has come, the labels there, and what was visited
pub record IsUnderWay (sites : List Site) (notes : Visited) (m : TheMap) (events : List (List Event)) (from : ℕ) (list : List ℕ) : Type 0 where
  pub are : AreEvents m.chains (joined events)
  pub rising : AreEventsRising (joined events)
  pub ranges : AreInRange m.chains
  pub swept : IsSwept m.chains (joined events) (before from events) list
  pub labelled : AreLabelled (length m.polygons) (raised m.chains) notes.labels.gaps.items notes.labels.labels.items list
  pub visits : AreVisits sites notes m
