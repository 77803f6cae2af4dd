use Rattle.std.proofs.Common.{refl}
use Rattle.tl_cert_output.proofs.PageLemmas.{both, as_text}
use Rattle.tigertopo_program.proofs.print.landmarks.print_place.Goals as goal

pub returns-in-None : goal.returns-in-None
returns-in-None g c =
    let page = g.met.P.Page.adding in
    as_text page (both page (both page c.add.ensures c.number.ensures) c.add-in-None.ensures) (rw c.in-None.is refl)

pub returns-in-Some : goal.returns-in-Some
returns-in-Some g c =
    let page = g.met.P.Page.adding in
    as_text page (both page (both page c.add.ensures c.number.ensures) (both page c.add-in-Some.ensures c.print_point.ensures)) (rw c.in-Some.is refl)
