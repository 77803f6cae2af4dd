use Rattle.tl_geom.proofs.Fitting.{read_cross, in_line_test, not_parallel}
use Rattle.tl_geom.proofs.meeting.are_in_line.Goals as goal

pub returns-then-cross_of_steps-eq0 : goal.returns-then-cross_of_steps-eq0
returns-then-cross_of_steps-eq0 c =
    in_line_test c.args.s c.args.t c.cross_of_steps.result c.cross_of_steps-then-cross_of_steps-eq0.result c.cross_of_steps.ensures.bound c.cross_of_steps-then-cross_of_steps-eq0.ensures.bound
    (read_cross _ _ _ _ _ _ _ _ _ c.a.ensures c.b.ensures c.a-2.ensures c.b-2.ensures c.cross_of_steps.ensures.value)
    (read_cross _ _ _ _ _ _ _ _ _ c.a-then-cross_of_steps-eq0.ensures c.b-then-cross_of_steps-eq0.ensures c.a-then-cross_of_steps-eq0-2.ensures c.a-then-cross_of_steps-eq0-3.ensures c.cross_of_steps-then-cross_of_steps-eq0.ensures.value)
    c.if-cross_of_steps-eq0.true

pub returns-else-cross_of_steps-eq0 : goal.returns-else-cross_of_steps-eq0
returns-else-cross_of_steps-eq0 c =
    not_parallel c.args.s c.args.t c.cross_of_steps.result
    (read_cross _ _ _ _ _ _ _ _ _ c.a.ensures c.b.ensures c.a-2.ensures c.b-2.ensures c.cross_of_steps.ensures.value)
    c.if-cross_of_steps-eq0.false
