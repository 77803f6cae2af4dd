use Rattle.tigertopo_border.proofs.LawLemmas.{read_again}
use Rattle.tigertopo_border.proofs.ReadableLemmas.{text_readable}
use Rattle.tigertopo_border.proofs.laws.a_border_of_records_is_read_again.Goals as goal

pub returns : goal.returns
returns c = λ name options text m named is. read_again name m named (text_readable options text m is)
