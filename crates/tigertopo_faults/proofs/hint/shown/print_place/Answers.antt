use Rattle.std.proofs.Common.{refl}
use Rattle.tl_cert_output.proofs.PageLemmas.{both, as_text}
use Rattle.tigertopo_faults.proofs.hint.shown.print_place.Goals as goal

pub returns : goal.returns
returns g c =
    let page = g.met.P.Page.adding in
    as_text page (both page (both page (both page (both page c.add.ensures c.print_name.ensures) c.add-2.ensures) c.number.ensures) c.print_field.ensures) (rw c.content.ensures refl)
