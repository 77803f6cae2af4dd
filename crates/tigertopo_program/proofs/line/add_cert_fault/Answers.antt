use Rattle.tl_cert_output.proofs.PageLemmas.{both, as_text}
use Rattle.tigertopo_program.proofs.line.add_cert_fault.Goals as goal

pub returns : goal.returns
returns g c =
    let page = g.met.P.Page.adding in
    both page (as_text page c.add_numbered.ensures c.cause-number.ensures) c.add.ensures
