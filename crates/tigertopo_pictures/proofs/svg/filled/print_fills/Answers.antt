use Rattle.tl_cert_output.proofs.PageLemmas.{nothing}
use Rattle.tigertopo_pictures.proofs.svg.filled.print_fills.Goals as goal

pub returns-in-Some : goal.returns-in-Some
returns-in-Some g c = rw c.in-Some.is c.print_all.ensures

pub returns-in-None : goal.returns-in-None
returns-in-None g c =
    let page = g.met.P.Page.adding in
    rw c.in-None.is (nothing page)
