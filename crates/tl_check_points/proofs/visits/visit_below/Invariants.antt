use Rattle.std.proofs.Common.{◌≡◌, All, length}
use Rattle.tl_check_active.specs.Blocks.Lined.{list_of}
use Rattle.tl_check_points.specs.Keeping.Visits.{IsVisit}
use Rattle.tl_check_points.proofs.visits.visit_below.Given as goal

-- the list stays, and all that was found is so
abbrev pub invariant-loop-place : goal.invariant-loop-place
invariant-loop-place l = record {
  stays : list_of l.line ≡ list_of l.initial.line;
  visits : All (IsVisit (length l.map.polygons) l.map.chains l.sites l.labels.gaps.items) l.visits.items;
}

abbrev pub decreases-loop-place : goal.decreases-loop-place
decreases-loop-place l = l.points
