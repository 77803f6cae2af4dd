use Rattle.tl_geom.proofs.Turns.{turned-at, turned-lanes}
use Rattle.tl_geom.proofs.rect8.turned8.Goals as goal

pub returns-clause-lanes : goal.returns-clause-lanes
returns-clause-lanes c = turned-lanes c.args.v c.requires

pub returns-clause-value : goal.returns-clause-value
returns-clause-value c = turned-at c.args.v c.requires
