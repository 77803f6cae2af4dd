use Rattle.std.proofs.Common.{length, refl, sym, ◌∙◌}
use Rattle.tl_check_sides.specs.declared.fault.Disagreement.{Disagreement}
use Rattle.tl_check_sides.proofs.Headings.{dart_within}
use Rattle.tl_check_planar.proofs.ListingLemmas.Pushing.{pushed}
use Rattle.tl_check_planar.proofs.ListingLemmas.Rows.{row_begun, row_more, row_skipped, row_ended}
use Rattle.tl_check_sides.specs.Listing.Disagreements.{HaveSidesAtOdds}
use Rattle.tl_check_sides.specs.Listing.Keeping.Grouped.{numbers_of}
use Rattle.tl_check_sides.proofs.ListingLemmas.Rows.{number_at, in_numbers, all_numbers, reverse_within, at_odds, agree}
use Rattle.tl_check_sides.proofs.listing.sides.push_next.Goals as goal

pub loop-place-init : goal.loop-place-init
loop-place-init c =
    row_begun (λ (d : Disagreement). d.first) (λ d. d.next) (λ d. HaveSidesAtOdds c.args.map.now.chains d.first d.next) (HaveSidesAtOdds c.args.map.now.chains) c.args.dart (numbers_of c.args.next.now) c.args.found.now.items
    (λ b odd. c.requires.next.complete b odd.is_next) c.requires.found

pub dart_left-requires : goal.dart_left-requires
dart_left-requires c =
    let next = c.requires.next.each c.loop-place.place 0 (in_numbers c.args.next.now c.loop-place.place c.loop-place-test.true) in
    let other = number_at c.args.next.now c.loop-place.place c.index-next-place.result c.loop-place-test.true in
    rw c.reverse_dart.ensures (reverse_within (length c.args.map.now.chains) _ (rw other at (dart_within c.args.map.now.chains _ next.node next.b_starts)))

pub loop-place-preserved-then-is : goal.loop-place-preserved-then-is
loop-place-preserved-then-is c =
    let other = number_at c.args.next.now c.loop-place.place c.index-next-place.result c.loop-place-test.true in
    row_skipped (λ (d : Disagreement). d.first) (λ d. d.next) (λ d. HaveSidesAtOdds c.args.map.now.chains d.first d.next) (HaveSidesAtOdds c.args.map.now.chains) c.args.dart (numbers_of c.args.next.now)
    c.requires.next.rising c.loop-place.place (in_numbers c.args.next.now c.loop-place.place c.loop-place-test.true) c.loop-place.found.items c.loop-place.invariant
    (rw other (agree c.args.map.now.chains c.args.dart _ c.reverse_dart.result c.dart_left-left.result c.dart_left.result c.dart_left-left.ensures.left c.reverse_dart.ensures c.dart_left.ensures.left (c.is.ensures.same c.if-is.true)))

pub loop-place-preserved : goal.loop-place-preserved
loop-place-preserved c =
    let within = in_numbers c.args.next.now c.loop-place.place c.loop-place-test.true in
    let next = c.requires.next.each c.loop-place.place 0 within in
    let other = number_at c.args.next.now c.loop-place.place c.index-next-place.result c.loop-place-test.true in
    rw (pushed c.push.result c.loop-place.found.items c.push.new.self.items _ c.push.ensures.items (sym c.is_err.ensures.value ∙ c.if-is_err.false))
    (row_more (λ (d : Disagreement). d.first) (λ d. d.next) (λ d. HaveSidesAtOdds c.args.map.now.chains d.first d.next) (HaveSidesAtOdds c.args.map.now.chains) c.args.dart (numbers_of c.args.next.now)
    c.requires.next.rising c.loop-place.place within c.loop-place.found.items c.loop-place.invariant _ refl (sym other)
    (at_odds c.args.map.now.chains c.args.dart _ c.reverse_dart.result c.dart_left-left.result c.dart_left.result (rw other at next) c.dart_left-left.ensures.left c.reverse_dart.ensures c.dart_left.ensures.left (c.is.ensures.other c.if-is.false)))

pub returns : goal.returns
returns c =
    row_ended (λ (d : Disagreement). d.first) (λ d. d.next) (λ d. HaveSidesAtOdds c.args.map.now.chains d.first d.next) (HaveSidesAtOdds c.args.map.now.chains) c.args.dart (numbers_of c.args.next.now) c.loop-place.place c.loop-place.found.items (all_numbers c.args.next.now c.loop-place.place c.loop-place-test.false) c.loop-place.invariant
