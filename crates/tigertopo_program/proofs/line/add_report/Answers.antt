use Rattle.tl_cert_output.proofs.PageLemmas.{both}
use Rattle.tigertopo_program.proofs.line.add_report.Goals as goal

pub returns : goal.returns
returns g c =
    let page = g.met.P.Page.adding in
    both page
    (both page c.add.ensures
    (both page c.add_number.ensures (both page c.add_number-2.ensures (both page c.add_number-3.ensures (both page c.add_number-4.ensures (both page c.add_number-5.ensures c.add_number-6.ensures))))))
    c.add-2.ensures
