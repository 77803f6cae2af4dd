use Rattle.tl_cert_output.proofs.PageLemmas.{both}
use Rattle.tigertopo_faults.proofs.objects.about.print_types.Goals as goal

pub returns : goal.returns
returns g c =
    let page = g.met.P.Page.adding in
    both page (both page c.add.ensures (rw c.type_strings.ensures at c.add-2.ensures)) c.add-3.ensures
