use Rattle.tl_build_propose.proofs.CountLemmas.{where_planar}
use Rattle.tl_build_propose.proofs.proposal.count_walks.Goals as goal

pub count_walks_of-requires : goal.count_walks_of-requires
count_walks_of-requires c = c.in_ok-starts.ensures

pub returns : goal.returns
returns c = where_planar c.args.map.now.chains c.count_walks_of.result c.count_walks_of.ensures
