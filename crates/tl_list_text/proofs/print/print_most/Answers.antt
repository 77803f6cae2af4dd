use Rattle.std.proofs.Common.{ap, decimal}
use Rattle.tl_cert_output.proofs.PageLemmas.{both, as_text}
use Rattle.tl_list_text.proofs.print.print_most.Goals as goal

pub returns-in-Some : goal.returns-in-Some
returns-in-Some g c =
    let page = g.met.P.Page.adding in
    rw c.in-Some.is (both page c.add.ensures (as_text page c.number.ensures (ap decimal c.min.ensures)))
