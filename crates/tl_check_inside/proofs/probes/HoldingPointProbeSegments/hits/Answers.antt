use Rattle.tl_check_inside.proofs.Hitting.{spot_hit}
use Rattle.tl_check_inside.proofs.probes.HoldingPointProbeSegments.hits.Goals as goal

pub returns : goal.returns
returns c =
    spot_hit c.map.result.now.chains c.args.items.now c.args.self.now.0 c.args.i c.segment.ensures.0 c.segment.ensures.1 c.segment.result c.on.result
    c.map.ensures c.segment.ensures.2 c.segment.ensures.3 c.on.ensures
