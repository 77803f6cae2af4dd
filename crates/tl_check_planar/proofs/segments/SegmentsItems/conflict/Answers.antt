use Rattle.tl_check_planar.proofs.Telling.{told}
use Rattle.tl_check_planar.proofs.segments.SegmentsItems.conflict.Goals as goal

pub returns : goal.returns
returns c =
    rw (← c.self.view_is) (told c.self.inside.map.now.chains c.args.i c.args.j c.segment-one.result c.segment-other.result
    (record { c = c.segment-one.ensures.0; k = c.segment-one.ensures.1; number = c.segment-one.ensures.2; joins = c.segment-one.ensures.3 })
    (record { c = c.segment-other.ensures.0; k = c.segment-other.ensures.1; number = c.segment-other.ensures.2; joins = c.segment-other.ensures.3 })
    c.allowed_points.result c.refused_point.result c.allowed_points.ensures c.refused_point.ensures)
