use Rattle.tigertopo_faults.specs.Hint.Objects.{refused_feature}
use Rattle.tl_cert_output.proofs.PageLemmas.{both}
use Rattle.tigertopo_faults.proofs.hint.object.print_refused_feature.Goals as goal

pub returns : goal.returns
unfolding refused_feature
returns g c =
    let page = g.met.P.Page.adding in
    both page (both page (both page (both page (both page (both page c.add.ensures c.print_cause_members.ensures) c.add-2.ensures) c.print_quoted.ensures) c.add-3.ensures) c.number.ensures) c.add-4.ensures
