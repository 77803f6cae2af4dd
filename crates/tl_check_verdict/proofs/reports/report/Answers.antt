use Rattle.std.proofs.Common.{refl}
use Rattle.tl_check_verdict.proofs.NodeCounts.{of_each}
use Rattle.tl_check_verdict.proofs.reports.report.Goals as goal

pub returns : goal.returns
returns c =
    let nodes = c.nodes.ensures in
    record {
      chains = c.chains.ensures;
      segments = c.segments.ensures.count;
      nodes = of_each c.args.map.now.chains c.nodes.result nodes.0 nodes.1 nodes.2;
      polygons = c.polygons.ensures;
      landmarks = c.landmarks.ensures.count;
      rings_are = refl;
    }
