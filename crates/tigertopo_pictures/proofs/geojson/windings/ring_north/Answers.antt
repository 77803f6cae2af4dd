use Rattle.std.proofs.Common.{◌∙◌, ap, sym}
use Rattle.std.specs.Prelude.{slice_index}
use Rattle.tigertopo_pictures.specs.Walks.{dart_points}
use Rattle.tigertopo_pictures.specs.Geojson.Holes.{northernmost}
use Rattle.tigertopo_pictures.proofs.GeojsonLemmas.AreaLemmas.{points_are}
use Rattle.tigertopo_pictures.proofs.GeojsonLemmas.HoleLemmas.{north_more}
use Rattle.tigertopo_pictures.proofs.geojson.windings.ring_north.Goals as goal

pub loop-dart-preserved : goal.loop-dart-preserved
loop-dart-preserved c =
    let chains = c.args.map.now.chains in
    let walk = c.args.walk.now in
    let i = c.loop-dart.dart-index in
    let points = points_are chains (slice_index walk i) _ _ _ _ c.chain.ensures.chain in
    c.northernmost-found.ensures ∙ ap (northernmost c.loop-dart.found) (sym points) ∙ ap (λ p. northernmost p (dart_points chains (slice_index walk i))) c.loop-dart.invariant
    ∙ north_more chains c.dart_start-found.result walk i c.loop-dart-test.true
