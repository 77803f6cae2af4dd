use Rattle.std.proofs.Common.{◌∙◌, ap, ap₂, sym, length, option_map}
use Rattle.tl_cert_output.proofs.PageLemmas.{both, as_text}
use Rattle.tigertopo_pictures.specs.Geojson.Features.{shown, features_below, chain_feature, polygon_feature}
use Rattle.tigertopo_words.specs.declared.layer.Layer.TheVariants.{Chains, Points}
use Rattle.tigertopo_pictures.proofs.GeojsonLemmas.FeatureLemmas.{links_beside}
use Rattle.tigertopo_pictures.proofs.geojson.county.print_front.Goals as goal

pub print_polygons-requires-clause-beside : goal.print_polygons-requires-clause-beside
print_polygons-requires-clause-beside g c =
    ap length (c.as_slice.ensures.value ∙ c.requires.lands) ∙ links_beside c.args.map.now.landmarks ∙ sym c.requires.polygons.items

pub returns : goal.returns
returns g c =
    let page = g.met.P.Page.adding in
    let m = c.args.map.now in
    let file = option_map (λ name. name.now) c.args.file in
    let chains = c.shown-chains.ensures ∙ ap (shown c.args.layer Chains) c.chains.ensures in
    let points = c.shown-points.ensures ∙ ap (shown c.args.layer Points) c.polygons.ensures in
    both page c.add.ensures (both page (as_text page c.print_chains.ensures (ap (features_below 0 (chain_feature file m)) chains))
    (as_text page c.print_polygons.ensures (ap₂ (λ k n. features_below k (polygon_feature file m) n) chains points)))
