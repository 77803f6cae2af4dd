use Rattle.std.proofs.Common.{◌≡◌, ◌-◌, Some, below_more, refl, ap, sym, subst, ◌∙◌, arith}
use Rattle.std.specs.Prelude.{slice_index}
use Rattle.tl_map_county.specs.Darts.{dart_left}
use Rattle.tl_check_verdict.specs.Truth.{AreAtOdds}
use Rattle.tl_build_propose.proofs.SideLemmas.{at_odds, odds_differ, below_one, dart_in, one_given}
use Rattle.tl_build_propose.proofs.sides.side_at_odds.Goals as goal

pub returns-then-not-is : goal.returns-then-not-is
returns-then-not-is c =
    let some = c.loop-place.auto.place in
    let chains = c.args.map.now.chains in
    let ring = c.args.ring.now in
    let place = c.loop-place.place in
    let within = c.loop-place-test.true in
    let before : dart_left c.args.map.now.chains (slice_index c.args.ring.now (c.loop-place.place - 1)) ≡ Some c.dart_left-left.result = c.loop-place.invariant (place - 1) (omega (arith, some)) in
    odds_differ c.args.map.now c.dart_start.result (slice_index ring place) c.reverse_dart.result
    (subst (AreAtOdds c.args.map.now c.dart_start.result (slice_index ring place)) (sym c.reverse_dart.ensures)
    (at_odds c.args.map.now ring c.requires place (place - 1) c.dart_start.result (slice_index ring place) (slice_index ring (place - 1)) (omega (arith, some)) within refl refl c.dart_start.ensures
    (λ same. c.is.ensures.other c.if-not-is.true (one_given c.dart_left.result c.dart_left-left.result (sym c.dart_left.ensures.left ∙ same ∙ before)))))

pub bounds-ring-0 : goal.bounds-ring-0
bounds-ring-0 c = c.requires.some

pub dart_left-left-requires : goal.dart_left-left-requires
dart_left-left-requires c = dart_in c.args.map.now.chains c.args.ring.now c.requires 0 c.requires.some

pub loop-place-init : goal.loop-place-init
loop-place-init c = below_one (λ k. dart_left c.args.map.now.chains (slice_index c.args.ring.now k) ≡ Some c.dart_left-left.result) c.dart_left-left.ensures.left

pub dart_left-requires : goal.dart_left-requires
dart_left-requires c = dart_in c.args.map.now.chains c.args.ring.now c.requires c.loop-place.place c.loop-place-test.true

pub dart_start-requires : goal.dart_start-requires
dart_start-requires c = dart_in c.args.map.now.chains c.args.ring.now c.requires c.loop-place.place c.loop-place-test.true

pub loop-place-preserved : goal.loop-place-preserved
loop-place-preserved c =
    below_more (λ k. dart_left c.args.map.now.chains (slice_index c.args.ring.now k) ≡ Some c.dart_left-left.result) c.loop-place.place c.loop-place.invariant
    (c.dart_left.ensures.left ∙ ap Some (c.is.ensures.same c.if-not-is.false))

pub returns : goal.returns
returns c = λ k lt. let done = c.loop-place-test.false in c.loop-place.invariant k (omega (arith, lt, done)) ∙ sym c.dart_left-left.ensures.left
