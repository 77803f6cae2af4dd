use Rattle.tl_check.proofs.Enough.{enough}
use Rattle.tl_check.proofs.search.search_tree.Goals as goal

pub returns-then-is_enough : goal.returns-then-is_enough
returns-then-is_enough c = enough c.args.map.now.chains c.args.budget (c.is_enough.ensures.0 c.if-is_enough.true)
