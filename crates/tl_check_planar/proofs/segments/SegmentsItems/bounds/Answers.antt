use Rattle.std.proofs.Common.{sym, ◌∙◌}
use Rattle.tl_check_planar.proofs.Rects.{rect_by_number}
use Rattle.tl_check_planar.proofs.segments.SegmentsItems.bounds.Goals as goal

pub returns : goal.returns
returns c =
    rw (← c.self.view_is) (c.of.ensures.value
    ∙ sym (rect_by_number c.self.inside.map.now.chains c.args.i c.segment.ensures.0 c.segment.ensures.1 c.segment.result c.segment.ensures.2 c.segment.ensures.3))
