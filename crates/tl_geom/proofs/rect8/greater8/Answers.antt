use Rattle.tl_geom.proofs.Turns.{greater-at, greater-lanes}
use Rattle.tl_geom.proofs.rect8.greater8.Goals as goal

pub returns-clause-lanes : goal.returns-clause-lanes
returns-clause-lanes c = greater-lanes c.args.v c.args.w c.requires.first c.requires.second

pub returns-clause-value : goal.returns-clause-value
returns-clause-value c = greater-at c.args.v c.args.w c.requires.first c.requires.second
