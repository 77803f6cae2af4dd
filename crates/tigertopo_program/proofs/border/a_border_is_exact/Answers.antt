use Rattle.tigertopo_program.proofs.BorderLemmas.BorderLemmas.{border_is_exact}
use Rattle.tigertopo_program.proofs.border.a_border_is_exact.Goals as goal

pub returns : goal.returns
returns g = border_is_exact
