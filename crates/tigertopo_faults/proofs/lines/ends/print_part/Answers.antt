use Rattle.tl_cert_output.proofs.PageLemmas.{both}
use Rattle.tigertopo_faults.proofs.lines.ends.print_part.Goals as goal

pub returns-in-Pair : goal.returns-in-Pair
returns-in-Pair g c =
    let page = g.met.P.Page.adding in
    rw c.in-Pair.is (both page c.add-in-Pair.ensures c.number.ensures)
