-- How far a sweep that decides has come, and where it stops.
use Rattle.std.specs.Prelude.{◌≡◌, ℕ, Option, None, List, IfSome}
use Rattle.tl_map_county.specs.TheMap.{TheMap}
use Rattle.tl_check_planar.specs.Searching.{IsTrueMeet}
use Rattle.tl_check_planar.specs.declared.meet.Meet.{Meet}
use Rattle.tl_check_faces.specs.Crossings.Headings.{AreProper}
use Rattle.tl_check_active.specs.declared.events.Event.{Event}
use Rattle.tl_check_active.specs.Events.{before, joined, AreEvents, AreEventsRising}
use Rattle.tl_check_active.specs.Ranges.{AreInRange}
use Rattle.tl_check_gaps.specs.declared.watch.Gaps.{Gaps}
use Rattle.tl_check_gaps.specs.Keeping.Facing.{IsCounted}
use Rattle.tl_check_gaps.specs.Keeping.Spotted.{AreMarks}
use Rattle.tl_check_gaps.specs.Keeping.Swept.{AreBelow, IsSwept}
use Rattle.tl_check_gaps.specs.Keeping.Watched.{IsWatched}
use Rattle.tl_check_sweep.specs.declared.sweeping.Care.{Care}
use Rattle.tl_check_sweep.specs.declared.sweeping.Care.TheVariants.{Exact}
use Rattle.tl_check_sweep.specs.declared.sweeping.Findings.{Findings}

-- what is so of a map and its events, all along
pub record IsSweepable (m : TheMap) (events : List Event) : Type 0 where
  pub are : AreEvents m.chains events
  pub rising : AreEventsRising events
  pub ranges : AreInRange m.chains
  pub proper : AreProper m.chains

-- how far the sweep has come, that what comes next is higher, how often facing sides differ there, which points were found, and what is told of gaps
pub record IsUnderWay (asked : Gaps) (notes : Findings) (m : TheMap) (events : List (List Event)) (from : ℕ) (list : List ℕ) : Type 0 where
  pub given : IsSweepable m (joined events)
  pub swept : IsSwept m.chains (joined events) (before from events) list
  pub below : AreBelow (before from events) (joined events)
  pub counted : IsCounted m.chains notes.gaps list
  pub marks : AreMarks m notes.spots.marks.items
  pub same : notes.watch.asked ≡ asked
  pub watched : IsWatched m.chains (joined events) (before from events) list notes.watch

-- what is found is a meet, and where places are exact one is found
pub record HasStopped (care : Care) (found : Option Meet) (m : TheMap) : Type 0 where
  pub meet : IfSome found (IsTrueMeet m.chains)
  pub exact : care ≡ Exact → ¬ (found ≡ None)
