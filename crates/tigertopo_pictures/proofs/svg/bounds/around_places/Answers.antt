use Rattle.std.proofs.Common.{refl}
use Rattle.std.proofs.lemmas.Option.{slice_get_read}
use Rattle.tigertopo_pictures.proofs.SvgLemmas.FrameLemmas.{places_next, places_end}
use Rattle.tigertopo_pictures.proofs.svg.bounds.around_places.Goals as goal

pub loop-place-preserved : goal.loop-place-preserved
loop-place-preserved c =
    places_next c.args.places.now c.loop-place.place-index c.place-item.result _ _ _
    (slice_get_read c.args.places.now _ _ _ refl c.loop-place-test.true c.place-item.is) c.around_place-rect.ensures c.loop-place.invariant

pub returns : goal.returns
returns c = places_end c.args.places.now c.loop-place.place-index _ _ c.loop-place-test.false c.loop-place.invariant
