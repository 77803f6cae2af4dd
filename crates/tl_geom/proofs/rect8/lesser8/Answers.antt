use Rattle.tl_geom.proofs.Turns.{lesser-at, lesser-lanes}
use Rattle.tl_geom.proofs.rect8.lesser8.Goals as goal

pub returns-clause-lanes : goal.returns-clause-lanes
returns-clause-lanes c = lesser-lanes c.args.v c.args.w c.requires.first c.requires.second

pub returns-clause-value : goal.returns-clause-value
returns-clause-value c = lesser-at c.args.v c.args.w c.requires.first c.requires.second
