use Rattle.tl_geom.proofs.NoOverlaps.{made_overlap, made_none, out_of_order}
use Rattle.tl_geom.proofs.meeting.overlap_in_line.Goals as goal

pub returns-then-precedes-clause-overlap : goal.returns-then-precedes-clause-overlap
returns-then-precedes-clause-overlap c =
    made_overlap c.args.s c.args.t _ _ _ _ c.later-first.result c.earlier-last.result
    (record { line = c.requires; first_ends = c.in_order.ensures; second_ends = c.in_order-2.ensures; later = c.later-first.ensures; earlier = c.earlier-last.ensures })
    (c.precedes.ensures.before c.if-precedes.true) c.new.result c.new.ensures.ends

pub returns-then-precedes-clause-none : goal.returns-then-precedes-clause-none
returns-then-precedes-clause-none c =
    made_none c.args.s c.args.t _ _ _ _ c.later-first.result c.earlier-last.result
    (record { line = c.requires; first_ends = c.in_order.ensures; second_ends = c.in_order-2.ensures; later = c.later-first.ensures; earlier = c.earlier-last.ensures })
    c.new.result c.new.ensures.none

pub returns-else-precedes-clause-none : goal.returns-else-precedes-clause-none
returns-else-precedes-clause-none c =
    out_of_order c.args.s c.args.t _ _ _ _ c.later-first.result c.earlier-last.result
    (record { line = c.requires; first_ends = c.in_order.ensures; second_ends = c.in_order-2.ensures; later = c.later-first.ensures; earlier = c.earlier-last.ensures })
    (c.precedes.ensures.after c.if-precedes.false)

pub returns-else-precedes-clause-overlap : goal.returns-else-precedes-clause-overlap
returns-else-precedes-clause-overlap c = tt
