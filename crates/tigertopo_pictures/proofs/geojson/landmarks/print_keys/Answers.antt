use Rattle.std.proofs.lemmas.List.{take_all}
use Rattle.tl_map_county.specs.declared.sides.Side.TheVariants as side
use Rattle.tigertopo_pictures.specs.Geojson.Features.{side_text}
use Rattle.tl_cert_output.proofs.PageLemmas.{both, as_text}
use Rattle.tigertopo_pictures.proofs.GeojsonLemmas.TextLemmas.{separated_more}
use Rattle.tigertopo_pictures.proofs.geojson.landmarks.print_keys.Goals as goal

pub loop-place-preserved : goal.loop-place-preserved
loop-place-preserved g c =
    let page = g.met.P.Page.adding in
    as_text page (both page (both page c.loop-place.invariant (as_text page c.add.ensures c.comma.ensures)) c.print_side.ensures)
    (separated_more (λ p. side_text c.args.map.now.polygons (side.Polygon p)) c.args.polygons.now c.loop-place.place _ c.loop-place-test.true)

pub returns : goal.returns
returns g c = let all = take_all c.loop-place.place c.args.polygons.now c.loop-place-test.false in rw all at c.loop-place.invariant
