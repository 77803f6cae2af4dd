use Rattle.std.proofs.Common.{refl}
use Rattle.tl_cert_output.proofs.PageLemmas.{both, as_text}
use Rattle.tigertopo_faults.proofs.hint.tell.TroubleLineText.add_to.Goals as goal

pub returns-clause-adds : goal.returns-clause-adds
returns-clause-adds g c =
    let page = g.met.P.Page.adding in
    as_text page (both page (both page (both page (both page c.add.ensures c.print_name.ensures) c.add-2.ensures) c.add-3.ensures) c.add-4.ensures) (rw c.as_bytes.ensures.value refl)
