use Rattle.tigertopo_border.proofs.WholeLemmas.Sectors.{sides_agree}
use Rattle.tigertopo_border.proofs.whole.laws.sides_agree_where_they_are_true.Goals as goal

pub returns : goal.returns
returns c = λ chains proper planar true_there stay. sides_agree chains proper planar true_there stay
