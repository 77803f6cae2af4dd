use Rattle.std.proofs.Common.{refl}
use Rattle.tigertopo_faults.specs.Hint.Objects.{place_object}
use Rattle.tl_cert_output.proofs.PageLemmas.{both, as_text}
use Rattle.tigertopo_faults.proofs.hint.object.print_place_object.Goals as goal

pub returns : goal.returns
unfolding place_object
returns g c =
    let page = g.met.P.Page.adding in
    as_text page (both page (both page (both page (both page (both page c.add.ensures c.print_string.ensures) c.add-2.ensures) c.number.ensures) c.print_field_members.ensures) c.add-3.ensures) (rw (c.as_bytes.ensures.value, c.content.ensures) refl)
