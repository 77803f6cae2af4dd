use Rattle.tl_check_inside.proofs.Hitting.{is_crossed}
use Rattle.tl_check_inside.proofs.sifting.is_crossed.Goals as goal

pub returns : goal.returns
returns c = is_crossed c.args.map.now.chains c.args.point c.args.s c.segment.ensures.0 c.segment.ensures.1 c.segment.result c.crosses_ray.result c.segment.ensures.2 c.segment.ensures.3 c.crosses_ray.ensures
