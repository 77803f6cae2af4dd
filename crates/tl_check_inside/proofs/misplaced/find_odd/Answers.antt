use Rattle.tl_check_inside.proofs.Tallying.{none_even, all_even, even_one}
use Rattle.tl_check_inside.proofs.misplaced.find_odd.Goals as goal

pub loop-place-init : goal.loop-place-init
loop-place-init c = none_even c.args.near.now c.args.far.now c.args.own

pub returns : goal.returns
returns c =
    all_even c.args.crossed.now c.args.near.now c.args.far.now c.args.own c.loop-place.place c.loop-place-test.false c.requires.alike c.loop-place.invariant c.requires.tallies

pub loop-place-preserved : goal.loop-place-preserved
loop-place-preserved c =
    even_one c.args.crossed.now c.args.near.now c.args.far.now c.args.own c.loop-place.place c.loop-place-test.true c.loop-place.invariant _ c.in-None.ensures c.in-None-odd_side.ensures

pub returns-in-Some : goal.returns-in-Some
returns-in-Some c = c.in-Some.ensures

pub returns-in-Some-odd_side : goal.returns-in-Some-odd_side
returns-in-Some-odd_side c = c.in-Some-odd_side.ensures
