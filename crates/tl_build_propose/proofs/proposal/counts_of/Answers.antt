use Rattle.tl_check_verdict.proofs.NodeCounts.{of_each}
use Rattle.tl_build_propose.proofs.proposal.counts_of.Goals as goal

pub returns : goal.returns
returns c =
    let nodes = c.nodes.ensures in
    record {
      chains = c.chains.ensures;
      segments = c.segments.ensures.count;
      nodes = of_each c.args.map.now.chains c.nodes.result nodes.0 nodes.1 nodes.2;
      polygons = c.polygons.ensures;
    }
