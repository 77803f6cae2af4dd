use Rattle.std.proofs.Common.{arith, option_map}
use Rattle.tigertopo_pictures.specs.Geojson.Features.{polygon_feature}
use Rattle.tl_cert_output.proofs.PageLemmas.{both, as_text}
use Rattle.tigertopo_pictures.proofs.GeojsonLemmas.FeatureLemmas.{one_feature_more}
use Rattle.tigertopo_pictures.proofs.geojson.polygons.print_polygons.Goals as goal

pub loop-number-preserved : goal.loop-number-preserved
loop-number-preserved g c =
    let page = g.met.P.Page.adding in
    as_text page (both page (both page c.loop-number.invariant c.print_lead.ensures) c.print_polygon.ensures)
    (one_feature_more _ c.loop-number.number _ (polygon_feature (option_map (λ name. name.now) c.args.file) c.args.map.now) (omega (arith, c.from.ensures, c.from-in-loop-number.ensures)))
