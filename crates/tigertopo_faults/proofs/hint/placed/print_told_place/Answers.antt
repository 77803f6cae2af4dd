use Rattle.tl_cert_output.proofs.PageLemmas.{both}
use Rattle.tigertopo_faults.proofs.hint.placed.print_told_place.Goals as goal

pub returns-in-Lines : goal.returns-in-Lines
returns-in-Lines g c =
    let page = g.met.P.Page.adding in
    rw c.in-Lines.is (both page c.print_place.ensures c.add.ensures)

pub returns-in-Objects : goal.returns-in-Objects
returns-in-Objects g c =
    let page = g.met.P.Page.adding in
    rw c.in-Objects.is (both page c.print_place_object.ensures c.add-in-Objects.ensures)

pub returns-in-Features : goal.returns-in-Features
returns-in-Features g c =
    let page = g.met.P.Page.adding in
    rw c.in-Features.is (both page c.print_place_object-in-Features.ensures c.add-in-Features.ensures)
