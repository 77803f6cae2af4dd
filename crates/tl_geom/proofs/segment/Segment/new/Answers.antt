use Rattle.std.proofs.Common.{refl, sym}
use Rattle.tl_geom.proofs.Conditions.{same_point, other_point, apart}
use Rattle.tl_geom.proofs.segment.Segment.new.Goals as goal

pub invariant_of-result : goal.invariant_of-result
invariant_of-result c = record { different = other_point c.args.a c.args.b c.eq.result c.eq.ensures c.if-eq.false }

pub returns-then-eq-clause-none : goal.returns-then-eq-clause-none
returns-then-eq-clause-none c = (λ _. same_point c.args.a c.args.b c.eq.result c.eq.ensures c.if-eq.true, λ _. refl)

pub returns-else-eq-clause-none : goal.returns-else-eq-clause-none
returns-else-eq-clause-none c = (λ e. absurd (apart (sym e)), λ k. absurd (other_point c.args.a c.args.b c.eq.result c.eq.ensures c.if-eq.false k))

pub returns-else-eq-clause-ends : goal.returns-else-eq-clause-ends
returns-else-eq-clause-ends c = (refl, refl)
