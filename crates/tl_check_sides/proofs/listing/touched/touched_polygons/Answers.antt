use Rattle.std.proofs.lemmas.Option.{slice_get-get_or}
use Rattle.tl_check_sides.specs.declared.fault.Disagreement.{Disagreement}
use Rattle.tl_check_sides.proofs.ListingLemmas.Touching.{none_named, named_more, named_all}
use Rattle.tl_check_sides.proofs.listing.touched.touched_polygons.Goals as goal

abbrev nothing : Disagreement
nothing = record { first = 0; next = 0 }

pub loop-place-init : goal.loop-place-init
loop-place-init c = none_named c.args.map.now.chains c.args.sides.now c.new-touched.result.items c.new-touched.ensures.items

pub push_both-requires : goal.push_both-requires
push_both-requires c = c.requires.true_ones c.loop-place.place nothing c.loop-place-test.true

pub loop-place-preserved : goal.loop-place-preserved
loop-place-preserved c =
    named_more c.args.map.now.chains c.args.sides.now c.loop-place.place _ c.loop-place-test.true
    (slice_get-get_or c.args.sides.now c.loop-place.place nothing c.loop-place-test.true) (c.requires.true_ones c.loop-place.place nothing c.loop-place-test.true)
    c.loop-place.touched.items c.push_both.new.touched.items c.in_ok-push_both.ensures c.loop-place.invariant

pub returns : goal.returns
returns c =
    named_all c.args.map.now.chains c.args.sides.now c.loop-place.place c.loop-place.touched.items c.sort_once.new.numbers.items c.loop-place-test.false c.requires
    c.sort_once.ensures.rising c.sort_once.ensures.same c.loop-place.invariant
