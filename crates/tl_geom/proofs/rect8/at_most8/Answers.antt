use Rattle.tl_geom.proofs.Masks.{bits-le, bits-lt}
use Rattle.tl_geom.proofs.rect8.at_most8.Goals as goal

pub returns-clause-lanes : goal.returns-clause-lanes
returns-clause-lanes c = λ k lt. bits-le c.args.v c.args.w k c.requires.first c.requires.second lt

pub returns-clause-eight : goal.returns-clause-eight
returns-clause-eight c = bits-lt c.args.v c.args.w c.requires.first c.requires.second
