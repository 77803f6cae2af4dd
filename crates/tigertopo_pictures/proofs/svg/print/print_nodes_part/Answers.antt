use Rattle.tl_cert_output.proofs.PageLemmas.{both}
use Rattle.tigertopo_pictures.specs.Svg.Texts.{nodes_part}
use Rattle.tigertopo_pictures.proofs.svg.print.print_nodes_part.Goals as goal

pub returns : goal.returns
unfolding nodes_part
returns g c =
    let page = g.met.P.Page.adding in
    both page (both page c.add.ensures c.print_nodes.ensures) c.add-2.ensures
