use Rattle.std.proofs.Common.{◌∙◌}
use Rattle.tl_cert_output.proofs.PageLemmas.{both, as_text}
use Rattle.tl_list_text.proofs.faults.print_faces.Goals as goal

pub returns-in-Facing : goal.returns-in-Facing
returns-in-Facing g c =
    let page = g.met.P.Page.adding in
    rw c.in-Facing.is ((both page (both page (both page c.add.ensures c.print_face.ensures) c.add-in-Facing.ensures) c.print_face-in-Facing.ensures))

pub returns-in-Outward : goal.returns-in-Outward
returns-in-Outward g c =
    let page = g.met.P.Page.adding in
    rw c.in-Outward.is (both page (both page (both page c.add.ensures c.print_face-in-Outward.ensures) c.add-in-Outward.ensures) (as_text page c.add-in-Outward-2.ensures (c.as_bytes.ensures.value ∙ c.word.ensures)))
