use Rattle.tl_cert_output.proofs.PageLemmas.{both}
use Rattle.tl_cert_output.proofs.refusals.print_refusal.Goals as goal

pub returns : goal.returns
returns g c =
    let page = g.met.P.Page.adding in
    both page (both page (both page (both page c.add.ensures c.number.ensures) c.add-2.ensures) c.print_cause.ensures) c.add-3.ensures
