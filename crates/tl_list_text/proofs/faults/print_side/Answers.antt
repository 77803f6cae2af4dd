use Rattle.tl_cert_output.proofs.PageLemmas.{both}
use Rattle.tl_list_text.proofs.faults.print_side.Goals as goal

pub returns-in-Some : goal.returns-in-Some
returns-in-Some g c =
    let page = g.met.P.Page.adding in
    rw c.in-Some.is (both page c.add.ensures c.print_key.ensures)
