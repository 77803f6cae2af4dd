use Rattle.std.proofs.Common.{refl, ◌∙◌}
use Rattle.tl_check_inside.proofs.Tallying.{some_near, some_far, taken_one, none_near, none_far}
use Rattle.tl_check_inside.proofs.tallies.take_back.Goals as goal

pub loop-place-init : goal.loop-place-init
loop-place-init c = record { nears = refl; fars = refl; tallies = c.requires.tallies }

pub returns-clause-no_near : goal.returns-clause-no_near
returns-clause-no_near c =
    none_near c.args.crossed.now c.loop-place.near c.loop-place.far c.loop-place.place c.loop-place-test.false c.loop-place.invariant.tallies

pub returns-clause-no_far : goal.returns-clause-no_far
returns-clause-no_far c =
    none_far c.args.crossed.now c.loop-place.near c.loop-place.far c.loop-place.place c.loop-place-test.false c.loop-place.invariant.tallies

pub discount-requires : goal.discount-requires
discount-requires c = record {
  counted = some_near c.args.crossed.now c.loop-place.near c.loop-place.far c.loop-place.place c.loop-place-test.true c.loop-place.invariant.tallies _;
}

pub discount-requires-in-loop-place : goal.discount-requires-in-loop-place
discount-requires-in-loop-place c = record {
  counted = some_far c.args.crossed.now c.loop-place.near c.loop-place.far c.loop-place.place c.loop-place-test.true c.loop-place.invariant.tallies _;
}

pub loop-place-preserved : goal.loop-place-preserved
loop-place-preserved c = record {
  nears = c.discount.ensures.long ∙ c.loop-place.invariant.nears;
  fars = c.discount-in-loop-place.ensures.long ∙ c.loop-place.invariant.fars;
  tallies =
      taken_one c.args.crossed.now c.loop-place.near c.loop-place.far c.loop-place.place c.loop-place-test.true c.loop-place.invariant.tallies _
      c.discount.new.counts c.discount-in-loop-place.new.counts c.discount.ensures.long c.discount-in-loop-place.ensures.long c.discount.ensures.one_less c.discount-in-loop-place.ensures.one_less;
}

pub returns-clause-nears : goal.returns-clause-nears
returns-clause-nears c = c.loop-place.invariant.nears

pub returns-clause-fars : goal.returns-clause-fars
returns-clause-fars c = c.loop-place.invariant.fars
