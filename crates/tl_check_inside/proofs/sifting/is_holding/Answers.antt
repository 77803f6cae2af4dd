use Rattle.std.proofs.Common.{refl}
use Rattle.tl_check_inside.proofs.Hitting.{spot_hit}
use Rattle.tl_check_inside.proofs.sifting.is_holding.Goals as goal

pub returns : goal.returns
returns c = spot_hit c.args.map.now.chains c.args.map.now.chains c.args.point c.args.s c.segment.ensures.0 c.segment.ensures.1 c.segment.result c.on.result refl c.segment.ensures.2 c.segment.ensures.3 c.on.ensures
