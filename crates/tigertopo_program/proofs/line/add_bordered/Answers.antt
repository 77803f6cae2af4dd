use Rattle.tl_cert_output.proofs.PageLemmas.{both}
use Rattle.tigertopo_program.proofs.line.add_bordered.Goals as goal

pub returns : goal.returns
returns g c =
    let page = g.met.P.Page.adding in
    both page (both page c.add_number.ensures c.add_number-2.ensures) c.add.ensures
