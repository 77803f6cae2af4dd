use Rattle.std.proofs.Common.{inl, inr}
use Rattle.tl_geom.specs.Plane.{turn_of}
use Rattle.tl_check_active.proofs.Tests.{ge_test, le_test}
use Rattle.tl_check_active.proofs.neighbours.is_in_order_at.Goals as goal

pub returns-then-first : goal.returns-then-first
returns-then-first c = λ h. inl (ge_test (turn_of c.args.c c.args.e c.args.p) _ _ c.turn.ensures c.is_ge.ensures h)

pub returns-else-first : goal.returns-else-first
returns-else-first c = λ h. inr (le_test (turn_of c.args.a c.args.b c.args.q) _ _ c.turn-else-first.ensures c.is_le.ensures h)
