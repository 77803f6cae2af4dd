use Rattle.tl_geom.proofs.Conditions.{second_test, failed_test}
use Rattle.tl_geom.proofs.Rectangles.{holds_on, on_holds_in, on_turn, on_line}
use Rattle.tl_geom.proofs.orientation.on.Goals as goal

pub returns-then-holds : goal.returns-then-holds
returns-then-holds c =
    second_test _ _ c.if-holds.true c.holds.ensures (on_line c.args.s c.a.result c.b.result c.args.p c.a.ensures c.b.ensures _ _ c.turn.ensures c.is_eq.ensures)
    (λ held straight. holds_on c.args.s c.args.p c.of.result c.of.ensures.value straight held) (λ k. on_turn c.args.s c.args.p k)

pub returns-else-holds : goal.returns-else-holds
returns-else-holds c = failed_test _ c.if-holds.false c.holds.ensures (λ k. on_holds_in c.args.s c.args.p c.of.result c.of.ensures.value k)
