use Rattle.tl_cert_output.proofs.PageLemmas.{both}
use Rattle.tigertopo_program.proofs.print.landmarks.print_count.Goals as goal

pub returns : goal.returns
returns g c =
    let page = g.met.P.Page.adding in
    both page (both page c.add.ensures c.number.ensures) c.add-2.ensures
