use Rattle.tigertopo_border.proofs.Joining.TextsLemmas.{texts_joined}
use Rattle.tigertopo_border.proofs.laws.texts_draw_a_joined_map.Goals as goal

pub returns : goal.returns
returns c = λ options texts parts drawn apart is. texts_joined options texts parts drawn apart is
