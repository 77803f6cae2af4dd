use Rattle.std.proofs.Common.{◌≡◌, drop}
use Rattle.tigertopo_pictures.specs.Svg.Texts.{scale_of}
use Rattle.tigertopo_pictures.proofs.svg.scale.scale_of.Given as goal

abbrev pub invariant-loop-length : goal.invariant-loop-length
invariant-loop-length l = scale_of l.longer (drop l.length-index l.scales) ≡ scale_of l.longer l.scales
