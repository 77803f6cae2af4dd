use Rattle.std.proofs.Common.{length}
use Rattle.tl_check_gaps.specs.Keeping.Facing.{raised}
use Rattle.tl_check_points.proofs.Entering.{IsEntering}
use Rattle.tl_check_points.proofs.labels.Labels.enter_all.Given as goal

abbrev pub invariant-loop-place : goal.invariant-loop-place
invariant-loop-place l = IsEntering (length l.map.polygons) (raised l.map.chains) l.fn.self l.self l.list l.place l.fn.east l.gap

abbrev pub decreases-loop-place : goal.decreases-loop-place
decreases-loop-place l = l.place
