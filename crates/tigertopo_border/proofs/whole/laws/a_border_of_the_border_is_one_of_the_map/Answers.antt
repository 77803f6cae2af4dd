use Rattle.tigertopo_border.proofs.WholeLemmas.Steps.{border_of_border}
use Rattle.tigertopo_border.proofs.whole.laws.a_border_of_the_border_is_one_of_the_map.Goals as goal

pub returns : goal.returns
returns c = λ homes joined border b is_border own. border_of_border homes joined border is_border b own
