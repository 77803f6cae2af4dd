use Rattle.std.proofs.Common.{◌≡◌, ◌+◌, length}
use Rattle.tigertopo_pictures.specs.Svg.Strokes.{strokes_left}
use Rattle.tigertopo_pictures.proofs.svg.chains.count_strokes.Given as goal

abbrev pub invariant-loop-stroke : goal.invariant-loop-stroke
invariant-loop-stroke l = l.count + length (strokes_left l.walk) ≡ length (strokes_left l.initial.walk)

abbrev pub decreases-loop-stroke : goal.decreases-loop-stroke
decreases-loop-stroke l = length (strokes_left l.walk)
