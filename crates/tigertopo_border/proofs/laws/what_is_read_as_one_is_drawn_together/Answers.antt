use Rattle.tigertopo_border.proofs.Joining.TextsLemmas.{drawn_together}
use Rattle.tigertopo_border.proofs.laws.what_is_read_as_one_is_drawn_together.Goals as goal

pub returns : goal.returns
returns c = λ options texts parts read apart is. drawn_together options texts parts read apart is
