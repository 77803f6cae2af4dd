use Rattle.std.proofs.Common.{◌≡◌, drop}
use Rattle.tigertopo_pictures.specs.Svg.Frames.{around_places}
use Rattle.tigertopo_pictures.proofs.svg.bounds.around_places.Given as goal

abbrev pub invariant-loop-place : goal.invariant-loop-place
invariant-loop-place l = around_places l.rect (drop l.place-index l.places) ≡ around_places l.initial.rect l.places
