use Rattle.tl_geom.proofs.Masks.{eight-lanes, eight-same}
use Rattle.tl_geom.proofs.rect8.lanes_of.Goals as goal

pub returns-clause-lanes : goal.returns-clause-lanes
returns-clause-lanes c = eight-lanes c.args.a c.args.b c.args.c c.args.d c.args.e c.args.f c.args.g c.args.h c.ranges.a c.ranges.b c.ranges.c c.ranges.d c.ranges.e c.ranges.f c.ranges.g c.ranges.h

pub returns-clause-value : goal.returns-clause-value
returns-clause-value c = eight-same c.args.a c.args.b c.args.c c.args.d c.args.e c.args.f c.args.g c.args.h c.ranges.a c.ranges.b c.ranges.c c.ranges.d c.ranges.e c.ranges.f c.ranges.g c.ranges.h
