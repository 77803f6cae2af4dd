use Rattle.std.proofs.Common.{rules}
use Rattle.tigertopo_pictures.specs.Geojson.Positions.{degrees_text, position_text}
use Rattle.tl_cert_output.proofs.PageLemmas.{both}
use Rattle.tigertopo_pictures.proofs.geojson.positions.print_position.Goals as goal

pub returns : goal.returns
unfolding position_text
returns g c =
    let page = g.met.P.Page.adding in
    let x : g.P.Page.adds _ _ (degrees_text c.args.point.x) = search rules in
    let y : g.P.Page.adds _ _ (degrees_text c.args.point.y) = search rules in
    both page (both page (both page (both page c.add.ensures x) c.add-2.ensures) y) c.add-3.ensures
