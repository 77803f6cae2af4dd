use Rattle.tl_map_county.specs.Darts.{dart_start}
use Rattle.tl_map_county.proofs.NodeLemmas.{one_number}
use Rattle.tl_map_county.proofs.laws.darts_share_a_node_where_they_start_at_one_point.Goals as goal

pub returns : goal.returns
returns c = λ chains nodes d e n m are lt at_n at_m. one_number (dart_start chains) nodes d e n m are lt at_n at_m
