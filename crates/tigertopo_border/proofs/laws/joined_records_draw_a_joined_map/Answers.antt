use Rattle.tigertopo_border.proofs.Joining.RecordsLemmas.{parts_joined}
use Rattle.tigertopo_border.proofs.laws.joined_records_draw_a_joined_map.Goals as goal

pub returns : goal.returns
returns c = λ join lists parts map draw fine is. parts_joined join lists parts map draw fine is
