use Rattle.tigertopo_faults.specs.Objects.About.{face_text}
use Rattle.tl_cert_output.proofs.PageLemmas.{both}
use Rattle.tigertopo_faults.proofs.objects.about.print_face.Goals as goal

pub returns : goal.returns
unfolding face_text
returns g c =
    let page = g.met.P.Page.adding in
    both page (both page (both page (both page (both page (both page c.add.ensures c.number.ensures) c.add-2.ensures) c.print_named.ensures) c.add-3.ensures) c.print_fractions.ensures) c.add-4.ensures
