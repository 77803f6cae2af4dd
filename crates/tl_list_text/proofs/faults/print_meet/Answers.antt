use Rattle.tl_cert_output.proofs.PageLemmas.{both}
use Rattle.tl_list_text.proofs.faults.print_meet.Goals as goal

pub returns : goal.returns
returns g c =
    let page = g.met.P.Page.adding in
    both page (both page (both page (both page (both page c.add.ensures c.print_segment.ensures) c.add-2.ensures) c.print_segment-2.ensures) c.add-3.ensures) c.print_rational.ensures
