use Rattle.tl_cert_output.proofs.PageLemmas.{both}
use Rattle.tigertopo_pictures.proofs.svg.print.print_back.Goals as goal

pub returns : goal.returns
returns g c =
    let page = g.met.P.Page.adding in
    both page (both page (both page c.print_marks.ensures c.print_faults.ensures) c.print_key.ensures) c.add.ensures
