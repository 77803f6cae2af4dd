use Rattle.std.proofs.Common.{length, refl, subst, arith}
use Rattle.tl_check_planar.specs.Keeping.Apart.{one_found}
use Rattle.tl_check_points.specs.Keeping.Labels.{HasEntered}
use Rattle.std.proofs.lemmas.List.{get_or_default}
use Rattle.tl_check_gaps.specs.Keeping.Facing.{raised}
use Rattle.tl_check_points.proofs.Treed.{kept_on}
use Rattle.tl_check_points.proofs.Entering.{none_entered, one_entered, all_entered}
use Rattle.tl_check_points.proofs.labels.Labels.enter_all.Goals as goal

pub loop-place-init : goal.loop-place-init
loop-place-init c = none_entered _ _ c.args.self.now c.args.list.now _ c.args.east refl

pub loop-place-preserved : goal.loop-place-preserved
loop-place-preserved c =
    let some = c.loop-place-test.true in
    one_entered _ _ c.args.self.now c.loop-place.self c.enter.new.self c.args.list.now _ c.loop-place.place _ c.args.east c.loop-place.gap c.in-Some.entered
    c.loop-place.invariant (omega (arith, some)) (let all = c.loop-place.invariant.within in omega (arith, some, all))
    (get_or_default c.args.list.now _ 0 _ (let all = c.loop-place.invariant.within in omega (arith, some, all))) c.in_ok-entered.ensures.kept
    (c.in_ok-entered.ensures.told c.in-Some.entered c.in-Some.is) (c.in_ok-entered.ensures.label c.in-Some.entered c.in-Some.is) c.enter.ensures.others

pub returns-clause-entered : goal.returns-clause-entered
returns-clause-entered c = λ g e.
    subst (λ k. HasEntered (length c.args.map.now.polygons) (raised c.args.map.now.chains) c.args.self.now c.loop-place.self c.args.list.now c.args.east k) (one_found c.loop-place.gap g _ refl e)
    (all_entered _ _ c.args.self.now c.loop-place.self c.args.list.now c.loop-place.place c.args.east c.loop-place.gap (omega (arith, c.loop-place-test.false))
    c.loop-place.invariant)

pub returns-clause-kept : goal.returns-clause-kept
returns-clause-kept c = c.loop-place.invariant.kept

pub returns-in_default-clause-kept : goal.returns-in_default-clause-kept
returns-in_default-clause-kept c =
    kept_on _ c.args.self.now.gaps.items c.loop-place.self.gaps.items c.enter.new.self.gaps.items c.loop-place.invariant.kept c.in_ok-entered.ensures.kept
