use Rattle.std.proofs.Common.{◌<◌, ◌∙◌, ap, arith, length}
use Rattle.tl_map_county.specs.Darts.{directed}
use Rattle.tigertopo_pictures.specs.Geojson.Holes.{norther}
use Rattle.tigertopo_pictures.proofs.GeojsonLemmas.HoleLemmas.{northernmost_more, many_directed}
use Rattle.tigertopo_pictures.proofs.geojson.windings.northernmost.Goals as goal

pub loop-place-preserved : goal.loop-place-preserved
loop-place-preserved c =
    let points = directed c.args.is_along c.args.points.now in
    let within : c.loop-place.place < length points = omega (arith, c.loop-place-test.true, many_directed c.args.is_along c.args.points.now) in
    c.norther-found.ensures ∙ ap (λ p. norther p c.point_at.result) c.loop-place.invariant ∙ northernmost_more c.args.point points c.loop-place.place c.point_at.result within c.point_at.ensures
