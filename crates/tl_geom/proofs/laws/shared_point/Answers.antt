use Rattle.tl_geom.proofs.Rectangles.{shared_meets}
use Rattle.tl_geom.proofs.laws.shared_point.Goals as goal

pub returns : goal.returns
returns c = shared_meets c.args.s c.args.t
