use Rattle.tl_cert_output.proofs.PageLemmas.{both}
use Rattle.tigertopo_faults.proofs.geojson.ends.print_ends.Goals as goal

pub returns-in-Some : goal.returns-in-Some
returns-in-Some g c =
    let page = g.met.P.Page.adding in
    rw c.in-Some.is (both page (both page (both page (both page (both page c.add.ensures (rw c.from.ensures at c.number.ensures)) c.add-in-Some.ensures) c.print_part.ensures) c.print_other.ensures) c.add-in-Some-2.ensures)
