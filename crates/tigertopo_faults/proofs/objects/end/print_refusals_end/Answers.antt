use Rattle.tigertopo_faults.specs.Objects.Ends.{refusals_end}
use Rattle.tl_cert_output.proofs.PageLemmas.{both}
use Rattle.tigertopo_faults.proofs.objects.end.print_refusals_end.Goals as goal

pub returns : goal.returns
unfolding refusals_end
returns g c =
    let page = g.met.P.Page.adding in
    both page (both page (both page (both page c.add.ensures c.number.ensures) c.add-2.ensures) c.number-2.ensures) c.add-3.ensures
