use Rattle.tl_cert_output.proofs.PageLemmas.{both}
use Rattle.tigertopo_faults.proofs.lines.line.print_record_line.Goals as goal

pub returns : goal.returns
returns g c =
    let page = g.met.P.Page.adding in
    both page (both page (both page (both page (both page c.add.ensures c.print_where.ensures) c.print_record.ensures) c.print_ends.ensures) c.print_at.ensures) c.add-2.ensures
