use Rattle.std.proofs.Common.{inl, sym}
use Rattle.tl_geom.proofs.Conditions.{same_point, other_point}
use Rattle.tl_geom.proofs.Overlaps.{in_line_apart, in_line_at_ends, in_line_middle}
use Rattle.tl_geom.proofs.meeting.meeting_in_line.Goals as goal

pub returns-then-eq : goal.returns-then-eq
returns-then-eq c =
    in_line_at_ends c.args.s c.args.t _ _ _ _ c.later-first.result c.earlier-last.result
    (record { line = c.requires; first_ends = c.in_order.ensures; second_ends = c.in_order-2.ensures; later = c.later-first.ensures; earlier = c.earlier-last.ensures })
    (same_point c.later-first.result c.earlier-last.result c.eq.result c.eq.ensures c.if-eq.true)

pub returns-then-precedes : goal.returns-then-precedes
returns-then-precedes c =
    inl (in_line_middle c.args.s c.args.t _ _ _ _ c.later-first.result c.earlier-last.result
    (record { line = c.requires; first_ends = c.in_order.ensures; second_ends = c.in_order-2.ensures; later = c.later-first.ensures; earlier = c.earlier-last.ensures })
    (c.precedes.ensures.before c.if-precedes.true) (other_point c.later-first.result c.earlier-last.result c.eq.result c.eq.ensures c.if-eq.false) c.middle.result c.middle.ensures.x c.middle.ensures.y c.middle.ensures.d)

pub returns-else-precedes : goal.returns-else-precedes
returns-else-precedes c =
    in_line_apart c.args.s c.args.t _ _ _ _ c.later-first.result c.earlier-last.result
    (record { line = c.requires; first_ends = c.in_order.ensures; second_ends = c.in_order-2.ensures; later = c.later-first.ensures; earlier = c.earlier-last.ensures })
    (c.precedes.ensures.after c.if-precedes.false) (λ e. other_point c.later-first.result c.earlier-last.result c.eq.result c.eq.ensures c.if-eq.false (sym e))
