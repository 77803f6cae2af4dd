use Rattle.tl_cert_output.proofs.PageLemmas.{both}
use Rattle.tigertopo_pictures.proofs.svg.print.print_front.Goals as goal

pub returns : goal.returns
returns g c =
    let page = g.met.P.Page.adding in
    both page (both page (both page c.print_size.ensures c.print_style.ensures) c.print_fills.ensures) c.print_chains.ensures
