use Rattle.std.proofs.Common.{◌<◌, length, [], refl, subst, ◌∙◌, arith}
use Rattle.std.proofs.lemmas.List.{take_all}
use Rattle.tl_check_inside.specs.Keeping.Tallies.{AreTallies}
use Rattle.tl_check_inside.proofs.Tallying.{room, room_far, counted_one}
use Rattle.tl_check_inside.proofs.tallies.tally.Goals as goal

pub loop-place-init : goal.loop-place-init
loop-place-init c = record { nears = refl; fars = refl; tallies = record { nears = c.requires.no_near; fars = c.requires.no_far } }

pub returns-clause-tallies : goal.returns-clause-tallies
returns-clause-tallies c =
    subst (λ xs. AreTallies xs c.loop-place.near c.loop-place.far) (take_all c.loop-place.place c.args.crossed.now c.loop-place-test.false) c.loop-place.invariant.tallies

pub count-requires : goal.count-requires
count-requires c = record {
  room = λ p lt.
      let inside : c.loop-place.place < length c.args.crossed.now = c.loop-place-test.true in
      let few = room c.args.crossed.now c.loop-place.near c.loop-place.far [] [] c.loop-place.place inside c.loop-place.invariant.tallies p lt in
      omega (arith, few);
}

pub count-requires-in-loop-place : goal.count-requires-in-loop-place
count-requires-in-loop-place c = record {
  room = λ p lt.
      let inside : c.loop-place.place < length c.args.crossed.now = c.loop-place-test.true in
      let few = room_far c.args.crossed.now c.loop-place.near c.loop-place.far [] [] c.loop-place.place inside c.loop-place.invariant.tallies p lt in
      omega (arith, few);
}

pub loop-place-preserved : goal.loop-place-preserved
loop-place-preserved c = record {
  nears = c.count.ensures.long ∙ c.loop-place.invariant.nears;
  fars = c.count-in-loop-place.ensures.long ∙ c.loop-place.invariant.fars;
  tallies =
      counted_one c.args.crossed.now c.loop-place.near c.loop-place.far c.count.new.counts c.count-in-loop-place.new.counts c.loop-place.place
      c.loop-place-test.true c.loop-place.invariant.tallies _ c.count.ensures.long c.count-in-loop-place.ensures.long c.count.ensures.counted c.count-in-loop-place.ensures.counted;
}

pub returns-clause-nears : goal.returns-clause-nears
returns-clause-nears c = c.loop-place.invariant.nears

pub returns-clause-fars : goal.returns-clause-fars
returns-clause-fars c = c.loop-place.invariant.fars
