use Rattle.tl_check_inside.proofs.Hitting.{ray_hit}
use Rattle.tl_check_inside.proofs.probes.RayProbeSegments.hits.Goals as goal

pub returns : goal.returns
returns c =
    ray_hit c.map.result.now.chains c.args.items.now c.args.self.now.0 c.args.i c.segment-segment.ensures.0 c.segment-segment.ensures.1 c.segment-segment.result c.crosses_ray.result
    c.map.ensures c.segment-segment.ensures.2 c.segment-segment.ensures.3 c.crossed_segment.ensures c.crosses_ray.ensures
