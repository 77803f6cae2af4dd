use Rattle.std.proofs.Common.{ap, lit≤, ◌^◌}
use mir.Syntax.{w128}
use mir.Val.{of_z}
use Rattle.tl_geom.proofs.Fitting.{bound128, neither, is_zero}
use Rattle.tl_geom.proofs.Meetings.{shares_passed_up, shares_passed_down, in_line, beside}
use Rattle.tl_geom.proofs.meeting.meeting_by_lines.Goals as goal

pub meeting_of_lines-requires-clause-shares : goal.meeting_of_lines-requires-clause-shares
meeting_of_lines-requires-clause-shares c =
    shares_passed_up c.args.s c.args.t c.a-a.result c.b-b.result c.a-p.result c.b-q.result
    c.cross_of_steps-across.result c.cross_of_steps-along_s.result c.cross_of_steps-along_t.result
    (record { first_a = c.a-a.ensures; first_b = c.b-b.ensures; second_a = c.a-p.ensures; second_b = c.b-q.ensures; whole = c.cross_of_steps-across.ensures.value; first = c.cross_of_steps-along_s.ensures.value; second = c.cross_of_steps-along_t.ensures.value })
    (c.cross_of_steps-across.ensures.bound, c.cross_of_steps-along_s.ensures.bound, c.cross_of_steps-along_t.ensures.bound) c.if-across-gt0.true

pub meeting_of_lines-requires-clause-bound : goal.meeting_of_lines-requires-clause-bound
meeting_of_lines-requires-clause-bound c = bound128 (2 ^ 65) c.cross_of_steps-across.result (lit≤ tt) c.cross_of_steps-across.ensures.bound

pub opposite-requires : goal.opposite-requires
opposite-requires c = bound128 (2 ^ 65) c.cross_of_steps-across.result (lit≤ tt) c.cross_of_steps-across.ensures.bound

pub opposite-requires-then-across-lt0 : goal.opposite-requires-then-across-lt0
opposite-requires-then-across-lt0 c = bound128 (2 ^ 65) c.cross_of_steps-along_s.result (lit≤ tt) c.cross_of_steps-along_s.ensures.bound

pub opposite-requires-then-across-lt0-2 : goal.opposite-requires-then-across-lt0-2
opposite-requires-then-across-lt0-2 c = bound128 (2 ^ 65) c.cross_of_steps-along_t.result (lit≤ tt) c.cross_of_steps-along_t.ensures.bound

pub meeting_of_lines-requires-then-across-lt0-clause-shares : goal.meeting_of_lines-requires-then-across-lt0-clause-shares
meeting_of_lines-requires-then-across-lt0-clause-shares c =
    shares_passed_down c.args.s c.args.t c.a-a.result c.b-b.result c.a-p.result c.b-q.result
    c.cross_of_steps-across.result c.cross_of_steps-along_s.result c.cross_of_steps-along_t.result
    c.opposite.result c.opposite-then-across-lt0.result c.opposite-then-across-lt0-2.result
    (record { first_a = c.a-a.ensures; first_b = c.b-b.ensures; second_a = c.a-p.ensures; second_b = c.b-q.ensures; whole = c.cross_of_steps-across.ensures.value; first = c.cross_of_steps-along_s.ensures.value; second = c.cross_of_steps-along_t.ensures.value })
    (c.cross_of_steps-across.ensures.bound, c.cross_of_steps-along_s.ensures.bound, c.cross_of_steps-along_t.ensures.bound) (c.opposite.ensures.bound, c.opposite-then-across-lt0.ensures.bound, c.opposite-then-across-lt0-2.ensures.bound)
    c.if-across-lt0.true c.opposite.ensures.value c.opposite-then-across-lt0.ensures.value c.opposite-then-across-lt0-2.ensures.value

pub meeting_of_lines-requires-then-across-lt0-clause-bound : goal.meeting_of_lines-requires-then-across-lt0-clause-bound
meeting_of_lines-requires-then-across-lt0-clause-bound c = bound128 (2 ^ 65) c.opposite.result (lit≤ tt) c.opposite.ensures.bound

pub meeting_in_line-requires : goal.meeting_in_line-requires
meeting_in_line-requires c =
    in_line c.args.s c.args.t c.a-a.result c.b-b.result c.a-p.result c.b-q.result
    c.cross_of_steps-across.result c.cross_of_steps-along_s.result c.cross_of_steps-along_t.result
    (record { first_a = c.a-a.ensures; first_b = c.b-b.ensures; second_a = c.a-p.ensures; second_b = c.b-q.ensures; whole = c.cross_of_steps-across.ensures.value; first = c.cross_of_steps-along_s.ensures.value; second = c.cross_of_steps-along_t.ensures.value })
    (neither c.cross_of_steps-across.result c.cross_of_steps-across.ensures.bound c.if-across-gt0.false c.if-across-lt0.false)
    (is_zero c.cross_of_steps-along_t.result c.cross_of_steps-along_t.ensures.bound c.if-along_t-eq0.true)

pub returns-else-along_t-eq0 : goal.returns-else-along_t-eq0
returns-else-along_t-eq0 c =
    beside c.args.s c.args.t c.a-a.result c.b-b.result c.a-p.result c.b-q.result
    c.cross_of_steps-across.result c.cross_of_steps-along_s.result c.cross_of_steps-along_t.result
    (record { first_a = c.a-a.ensures; first_b = c.b-b.ensures; second_a = c.a-p.ensures; second_b = c.b-q.ensures; whole = c.cross_of_steps-across.ensures.value; first = c.cross_of_steps-along_s.ensures.value; second = c.cross_of_steps-along_t.ensures.value })
    (neither c.cross_of_steps-across.result c.cross_of_steps-across.ensures.bound c.if-across-gt0.false c.if-across-lt0.false)
    (λ e. c.if-along_t-eq0.false (ap (of_z w128) e))
