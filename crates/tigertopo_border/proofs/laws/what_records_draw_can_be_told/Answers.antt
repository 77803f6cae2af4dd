use Rattle.tigertopo_border.proofs.ReadableLemmas.{text_readable}
use Rattle.tigertopo_border.proofs.laws.what_records_draw_can_be_told.Goals as goal

pub returns : goal.returns
returns c = λ options text m is. text_readable options text m is
