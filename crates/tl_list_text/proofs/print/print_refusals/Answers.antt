use Rattle.std.proofs.Common.{ap}
use Rattle.tl_cert_output.proofs.PageLemmas.{both, as_text}
use Rattle.tl_list_text.specs.Texts.{lines, told_refusal}
use Rattle.tl_list_text.proofs.print.print_refusals.Goals as goal

pub returns : goal.returns
returns g c =
    let page = g.met.P.Page.adding in
    both page (as_text page c.print_refusal_lines.ensures (ap (lines told_refusal) c.first_of.ensures)) c.print_end.ensures
