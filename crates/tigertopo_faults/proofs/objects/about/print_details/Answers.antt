use Rattle.tl_cert_output.proofs.PageLemmas.{both}
use Rattle.tigertopo_faults.proofs.objects.about.print_details.Goals as goal

pub returns-in-Darts : goal.returns-in-Darts
returns-in-Darts g c =
    let page = g.met.P.Page.adding in
    rw c.in-Darts.is (both page c.print_node.ensures c.print_darts.ensures)

pub returns-in-Cells : goal.returns-in-Cells
returns-in-Cells g c =
    let page = g.met.P.Page.adding in
    rw c.in-Cells.is (both page c.print_darts-in-Cells.ensures c.print_pair-in-Cells.ensures)
