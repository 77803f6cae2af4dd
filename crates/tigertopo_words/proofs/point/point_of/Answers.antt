use Rattle.tigertopo_words.proofs.DegreesLemmas.{in_no_unit}
use Rattle.tigertopo_words.proofs.point.point_of.Goals as goal

pub returns-in-None : goal.returns-in-None
returns-in-None c = in_no_unit c.args.word.now c.in-None.ensures c.point_in_degrees.result c.point_in_degrees.ensures
