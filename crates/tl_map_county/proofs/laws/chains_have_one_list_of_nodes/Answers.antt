use Rattle.tl_map_county.specs.Darts.{dart_start}
use Rattle.tl_map_county.proofs.NodeLemmas.{one_list}
use Rattle.tl_map_county.proofs.laws.chains_have_one_list_of_nodes.Goals as goal

pub returns : goal.returns
returns c = λ chains nodes others are too. one_list (dart_start chains) nodes others are too
