use Rattle.std.proofs.Common.{◌≡◌, drop}
use Rattle.tigertopo_pictures.specs.Svg.Frames.{around_chains}
use Rattle.tigertopo_pictures.proofs.svg.bounds.bounds_of.Given as goal

abbrev pub invariant-loop-chain : goal.invariant-loop-chain
invariant-loop-chain l = around_chains l.rect (drop l.chain l.map.chains) ≡ around_chains l.initial.rect l.map.chains
