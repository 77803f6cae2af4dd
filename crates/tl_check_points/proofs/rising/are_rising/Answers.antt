use Rattle.std.proofs.Common.{sym, subst, ◌∙◌, arith}
use Rattle.std.proofs.lemmas.List.{take_all}
use Rattle.tl_check_active.specs.Events.{joined, AreEventsRising}
use Rattle.tl_check_planar.proofs.ByHeight.Rising.{le_of}
use Rattle.tl_check_points.proofs.Upward.{first_rising, one_rising, none_rising}
use Rattle.tl_check_points.proofs.rising.are_rising.Goals as goal

pub loop-k-init : goal.loop-k-init
loop-k-init c = first_rising c.args.events.now c.point-last.result (omega (arith, c.if-count-eq0.false, c.len-count.ensures)) c.point-last.ensures

pub loop-k-preserved : goal.loop-k-preserved
loop-k-preserved c =
    one_rising c.args.events.now c.loop-k.k c.loop-k.last c.point-p.result (omega (arith, c.loop-k-test.true, c.len-count.ensures)) c.loop-k.invariant
    c.point-p.ensures (le_of _ _ (sym c.is_lower.ensures ∙ c.if-is_lower.false))

pub returns-then-count-eq0 : goal.returns-then-count-eq0
returns-then-count-eq0 c = λ h. none_rising c.args.events.now (omega (arith, c.if-count-eq0.true, c.len-count.ensures))

pub returns : goal.returns
returns c = λ h.
    subst (λ es. AreEventsRising (joined es)) (take_all c.loop-k.k c.args.events.now (omega (arith, c.loop-k-test.false, c.len-count.ensures))) c.loop-k.invariant.rising
