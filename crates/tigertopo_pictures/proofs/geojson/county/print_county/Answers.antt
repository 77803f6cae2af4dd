use Rattle.std.proofs.Common.{ap, option_map}
use Rattle.tl_cert_output.proofs.PageLemmas.{both, as_text}
use Rattle.tigertopo_pictures.specs.Geojson.Rings.{landmarks_text, county_text}
use Rattle.tigertopo_pictures.proofs.geojson.county.print_county.Goals as goal

pub returns-clause-adds : goal.returns-clause-adds
unfolding county_text
returns-clause-adds g c =
    let page = g.met.P.Page.adding in
    let m = c.args.map.now in
    let landmarks = as_text page c.print_last.ensures (ap (λ k. landmarks_text (option_map (λ name. name.now) c.args.file) c.args.layer k m) c.points_of.ensures.count) in
    both page (both page c.print_front.ensures landmarks) c.add.ensures
