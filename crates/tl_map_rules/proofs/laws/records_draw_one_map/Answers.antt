use Rattle.tl_map_rules.proofs.OneMapLemmas.{one_map}
use Rattle.tl_map_rules.proofs.laws.records_draw_one_map.Goals as goal

pub returns : goal.returns
returns c = one_map
