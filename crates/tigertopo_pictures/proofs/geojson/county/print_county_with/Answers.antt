use Rattle.std.proofs.Common.{ap, ap₂, map, option_map, ◌∙◌}
use Rattle.tigertopo_pictures.specs.Geojson.Features.{shown, features_below}
use Rattle.tigertopo_words.specs.declared.layer.Layer.TheVariants.{Polygons}
use Rattle.tigertopo_pictures.specs.Geojson.Rings.{boundary_feature, landmarks_text, county_text_with}
use Rattle.tl_cert_output.proofs.PageLemmas.{both, as_text}
use Rattle.tigertopo_pictures.proofs.geojson.county.print_county_with.Goals as goal

pub returns-clause-adds : goal.returns-clause-adds
unfolding county_text_with
returns-clause-adds g c =
    let page = g.met.P.Page.adding in
    let m = c.args.map.now in
    let landmarks = as_text page c.print_last.ensures (ap (λ k. landmarks_text (option_map (λ name. name.now) c.args.file) c.args.layer k m) c.shapes_of.ensures.count) in
    let boundaries = as_text page c.print_boundaries.ensures (ap₂ (λ k n. features_below k (boundary_feature (option_map (λ name. name.now) c.args.file) m (map (λ w. w.items) c.args.walks.now)) n) c.points_of.ensures.count (c.shown.ensures ∙ ap (shown c.args.layer Polygons) c.polygons.ensures)) in
    both page (both page (both page c.print_front.ensures boundaries) landmarks) c.add.ensures
