use Rattle.std.proofs.Common.{refl}
use Rattle.tl_cert_output.proofs.PageLemmas.{both, as_text}
use Rattle.tigertopo_program.proofs.line.add_drawn.Goals as goal

pub returns-in-Some : goal.returns-in-Some
returns-in-Some g c =
    let page = g.met.P.Page.adding in
    as_text page (both page (both page c.add_number.ensures (both page c.add_number-in-Some.ensures c.add_touched.ensures)) c.add.ensures) (rw c.in-Some.is refl)

pub returns-in-None : goal.returns-in-None
returns-in-None g c =
    let page = g.met.P.Page.adding in
    as_text page (both page c.add_number.ensures c.add-in-None.ensures) (rw c.in-None.is refl)
