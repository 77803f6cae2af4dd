use Rattle.tl_check_inside.proofs.Hitting.{strip_hit}
use Rattle.tl_check_inside.proofs.probes.StripProbeSegments.hits.Goals as goal

pub returns : goal.returns
returns c =
    strip_hit c.map.result.now.chains c.args.items.now c.args.self.now.0 c.of.result c.args.i c.segment.ensures.0 c.segment.ensures.1 c.segment.result c.meets.result
    c.map.ensures c.segment.ensures.2 c.segment.ensures.3 c.of.ensures.value c.meets.ensures
