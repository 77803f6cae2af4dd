use Rattle.tl_cert_output.proofs.PageLemmas.{both}
use Rattle.tigertopo_pictures.specs.Svg.Fills.{all_fills}
use Rattle.tigertopo_pictures.proofs.svg.filled.print_all.Goals as goal

pub returns : goal.returns
unfolding all_fills
returns g c =
    let page = g.met.P.Page.adding in
    both page (both page c.add.ensures c.print_polygons.ensures) c.add-2.ensures
