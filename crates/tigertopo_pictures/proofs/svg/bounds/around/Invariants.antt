use Rattle.std.proofs.Common.{◌≡◌, drop}
use Rattle.tigertopo_pictures.specs.Svg.Frames.{around_points}
use Rattle.tigertopo_pictures.proofs.svg.bounds.around.Given as goal

abbrev pub invariant-loop-point : goal.invariant-loop-point
invariant-loop-point l = around_points l.rect (drop l.point-index l.points) ≡ around_points l.initial.rect l.points
