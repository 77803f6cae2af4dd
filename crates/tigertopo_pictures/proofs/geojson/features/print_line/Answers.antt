use Rattle.tigertopo_pictures.specs.Geojson.Features.{chain_text}
use Rattle.tl_cert_output.proofs.PageLemmas.{both}
use Rattle.tigertopo_pictures.proofs.geojson.features.print_line.Goals as goal

pub returns : goal.returns
unfolding chain_text
returns g c =
    let page = g.met.P.Page.adding in
    both page (both page (both page (both page (both page (both page (both page (both page (both page c.add.ensures c.print_positions.ensures) c.add-2.ensures) c.number.ensures) c.add-3.ensures) c.print_side.ensures) c.add-4.ensures)
    c.print_side-2.ensures) c.print_file.ensures) c.add-5.ensures
