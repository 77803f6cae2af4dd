use Rattle.tl_cert_output.proofs.PageLemmas.{both}
use Rattle.tigertopo_pictures.specs.Svg.Texts.{chains_part}
use Rattle.tigertopo_pictures.proofs.svg.print.print_chains.Goals as goal

pub returns : goal.returns
unfolding chains_part
returns g c =
    let page = g.met.P.Page.adding in
    both page (both page c.add.ensures c.print_drawings.ensures) c.add-2.ensures
