use Rattle.tl_cert_output.proofs.PageLemmas.{both}
use Rattle.tl_list_text.proofs.faults.print_cells.Goals as goal

pub returns : goal.returns
returns g c =
    let page = g.met.P.Page.adding in
    both page (both page (both page (both page (both page (both page (both page c.add.ensures c.number.ensures) c.add-2.ensures) c.number-2.ensures) c.add-3.ensures) c.number-3.ensures) c.add-4.ensures) c.number-4.ensures
