use Rattle.tl_cert_output.proofs.PageLemmas.{both, as_text}
use Rattle.tigertopo_pictures.proofs.GeojsonLemmas.TextLemmas.{positions_parts}
use Rattle.tigertopo_pictures.proofs.geojson.positions.print_positions.Goals as goal

pub returns : goal.returns
returns g c =
    let page = g.met.P.Page.adding in
    as_text page (both page c.print_position.ensures c.print_line.ensures) (positions_parts c.args.points.now _ c.requires)
