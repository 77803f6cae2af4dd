use Rattle.tigertopo_faults.specs.Objects.Texts.{about_text}
use Rattle.tl_cert_output.proofs.PageLemmas.{both}
use Rattle.tigertopo_faults.proofs.objects.fault.print_about.Goals as goal

pub returns : goal.returns
unfolding about_text
returns g c =
    let page = g.met.P.Page.adding in
    both page (both page (both page c.add.ensures c.print_names.ensures) c.print_details.ensures) c.add-2.ensures
