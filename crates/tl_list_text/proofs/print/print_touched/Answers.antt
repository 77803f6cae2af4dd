use Rattle.tl_cert_output.proofs.PageLemmas.{both, as_text}
use Rattle.tl_list_text.proofs.LineLemmas.{touched_line}
use Rattle.tl_list_text.proofs.print.print_touched.Goals as goal

pub returns-then-touched-ne0 : goal.returns-then-touched-ne0
returns-then-touched-ne0 g c =
    let page = g.met.P.Page.adding in
    as_text page (both page (both page c.add.ensures c.number.ensures) c.add-then-touched-ne0.ensures) (touched_line c.args.touched c.if-touched-ne0.true)
