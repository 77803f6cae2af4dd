use Rattle.std.proofs.Common.{map, option_map, arith}
use Rattle.tigertopo_pictures.specs.Geojson.Rings.{boundary_feature}
use Rattle.tl_cert_output.proofs.PageLemmas.{both, as_text}
use Rattle.tigertopo_pictures.proofs.GeojsonLemmas.FeatureLemmas.{one_feature_more}
use Rattle.tigertopo_pictures.proofs.geojson.rings.print_boundaries.Goals as goal

pub loop-number-preserved : goal.loop-number-preserved
loop-number-preserved g c =
    let page = g.met.P.Page.adding in
    as_text page (both page (both page c.loop-number.invariant c.print_lead.ensures) c.print_boundary.ensures)
    (one_feature_more _ c.loop-number.number _ (boundary_feature (option_map (λ name. name.now) c.args.file) c.args.map.now (map (λ w. w.items) c.args.walks.now))
    (omega (arith, c.from.ensures, c.requires.before)))
