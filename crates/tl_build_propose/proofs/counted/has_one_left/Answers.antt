use Rattle.std.proofs.Common.{◌≡◌, suc, ◌-◌, Some, below_more, ap, sym, ◌∙◌, arith}
use Rattle.std.specs.Prelude.{slice_index}
use Rattle.tl_map_county.specs.Darts.{dart_left}
use Rattle.tl_build_propose.proofs.SideLemmas.{below_one, one_given}
use Rattle.tl_build_propose.proofs.counted.has_one_left.Goals as goal

pub bounds-walk-0 : goal.bounds-walk-0
bounds-walk-0 c = c.requires.some

pub dart_left-left-requires : goal.dart_left-left-requires
dart_left-left-requires c = c.requires.darts 0 c.requires.some

pub loop-place-init : goal.loop-place-init
loop-place-init c = below_one (λ k. dart_left c.args.map.now.chains (slice_index c.args.walk.now k) ≡ Some c.dart_left-left.result) c.dart_left-left.ensures.left

pub dart_left-requires : goal.dart_left-requires
dart_left-requires c = c.requires.darts c.loop-place.place c.loop-place-test.true

pub loop-place-preserved : goal.loop-place-preserved
loop-place-preserved c =
    below_more (λ k. dart_left c.args.map.now.chains (slice_index c.args.walk.now k) ≡ Some c.dart_left-left.result) c.loop-place.place c.loop-place.invariant
    (c.dart_left.ensures.left ∙ ap Some (c.is.ensures.same c.if-not-is.false))

pub returns-clause-one : goal.returns-clause-one
returns-clause-one c = λ yes k lt. let done = c.loop-place-test.false in c.loop-place.invariant k (omega (arith, lt, done)) ∙ sym c.dart_left-left.ensures.left

pub returns-then-not-is-clause-two : goal.returns-then-not-is-clause-two
returns-then-not-is-clause-two c =
    let some = c.loop-place.auto.place in
    let chains = c.args.map.now.chains in
    let walk = c.args.walk.now in
    let place = c.loop-place.place in
    let within = c.loop-place-test.true in
    let before : dart_left chains (slice_index walk (place - 1)) ≡ Some c.dart_left-left.result = c.loop-place.invariant (place - 1) (omega (arith, some)) in
    let one : suc (place - 1) ≡ place = omega (arith, some) in
    λ no. record {
      place = place - 1;
      within = omega (arith, one, within);
      two = λ same. c.is.ensures.other c.if-not-is.true
          (one_given c.dart_left.result c.dart_left-left.result (sym c.dart_left.ensures.left ∙ (ap (λ k. dart_left chains (slice_index walk k)) (sym one) ∙ (same ∙ before))));
    }
