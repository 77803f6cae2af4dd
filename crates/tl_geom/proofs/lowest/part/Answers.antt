use Rattle.std.proofs.Common.{ap, ◌∙◌, ◌*ℤ◌}
use Rattle.std.specs.Int.{w128}
use Rattle.std.proofs.lemmas.Int.{quot_is, quot_fits}
use Rattle.tl_geom.proofs.Dividing.{divided}
use Rattle.tl_geom.proofs.lowest.part.Goals as goal

pub returns : goal.returns
returns c =
    ap (λ z. z *ℤ c.args.divisor) (quot_is w128 c.args.a c.args.divisor c.ranges.a c.ranges.divisor
    (quot_fits w128 c.args.a c.args.divisor c.ranges.a c.requires.above))
    ∙ divided c.args.a c.args.divisor c.requires.divides
