use Rattle.std.proofs.Common.{refl, subst}
use Rattle.std.proofs.lemmas.List.{take_all}
use Rattle.tl_check_inside.specs.Keeping.Tallies.{flanks_in}
use Rattle.tl_check_gaps.specs.Keeping.Facing.{raised}
use Rattle.tl_check_points.specs.Keeping.Balances.{LeadsTo}
use Rattle.tl_check_points.proofs.Balances.{leads_more}
use Rattle.tl_check_points.proofs.agreeing.walk.Goals as goal

pub loop-s-init : goal.loop-s-init
loop-s-init c = λ S. refl

pub loop-s-preserved : goal.loop-s-preserved
loop-s-preserved c =
    leads_more (raised c.args.map.now.chains) c.args.list.now c.loop-s.s-index 0 c.args.from c.loop-s.side c.in_ok-flanks.flanks c.loop-s-test.true
    c.in_ok-flanks.ensures.flanks (c.are_same.ensures.0 c.if-not-are_same.false) c.loop-s.invariant

pub returns : goal.returns
returns c =
    subst (λ l. LeadsTo (flanks_in (raised c.args.map.now.chains) l) c.args.from c.loop-s.side) (take_all c.loop-s.s-index c.args.list.now c.loop-s-test.false)
    c.loop-s.invariant
