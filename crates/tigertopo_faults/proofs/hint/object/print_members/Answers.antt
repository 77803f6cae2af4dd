use Rattle.std.proofs.Common.{refl}
use Rattle.tl_cert_output.proofs.PageLemmas.{both, as_text}
use Rattle.tigertopo_faults.proofs.hint.object.print_members.Goals as goal

pub returns : goal.returns
returns g c =
    let page = g.met.P.Page.adding in
    as_text page (both page (both page (both page (both page (both page c.add.ensures c.number.ensures) c.add-2.ensures) c.number-2.ensures) c.add-3.ensures) c.print_byte_string.ensures) (rw (c.field.ensures, c.new.ensures) refl)
