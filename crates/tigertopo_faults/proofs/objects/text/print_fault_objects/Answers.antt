use Rattle.tigertopo_faults.specs.Objects.Texts.{objects_text}
use Rattle.tl_cert_output.proofs.PageLemmas.{both}
use Rattle.tigertopo_faults.proofs.objects.text.print_fault_objects.Goals as goal

pub returns : goal.returns
unfolding objects_text
returns g c =
    let page = g.met.P.Page.adding in
    let shown = c.chosen-shown.ensures in
    let objects = rw shown at (rw c.as_slice.ensures.value at (rw c.as_slice-2.ensures.value at c.print_objects.ensures)) in
    both page objects (rw shown at c.print_faults_end.ensures)
