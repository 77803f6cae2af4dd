use Rattle.tl_geom.proofs.Rectangles.{on_holds}
use Rattle.tl_geom.proofs.laws.point_on_segment.Goals as goal

pub returns : goal.returns
returns c = on_holds c.args.s c.args.p
