use Rattle.std.proofs.Common.{rules}
use Rattle.tl_geom.proofs.Rectangles.{points_of}
use Rattle.tl_geom.proofs.rect.Rect.of.Goals as goal

pub returns-clause-points : goal.returns-clause-points
returns-clause-points c = points_of c.args.s _ (search rules)
