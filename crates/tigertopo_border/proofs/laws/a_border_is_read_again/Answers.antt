use Rattle.tigertopo_border.proofs.LawLemmas.{read_again}
use Rattle.tigertopo_border.proofs.laws.a_border_is_read_again.Goals as goal

pub returns : goal.returns
returns c = λ name m named readable. read_again name m named readable
