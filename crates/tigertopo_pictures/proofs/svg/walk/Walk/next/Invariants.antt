use Rattle.std.proofs.Common.{◌≡◌, length}
use Rattle.tigertopo_pictures.specs.Svg.Strokes.{strokes_left}
use Rattle.tigertopo_pictures.proofs.svg.walk.Walk.next.Given as goal

abbrev pub invariant-loop-point : goal.invariant-loop-point
invariant-loop-point l = strokes_left l.self ≡ strokes_left l.initial.self

abbrev pub decreases-loop-point : goal.decreases-loop-point
decreases-loop-point l = length l.self.rest.now
