use Rattle.std.proofs.Common.{ap}
use Rattle.tl_cert_output.proofs.PageLemmas.{both, as_text}
use Rattle.tl_check_verdict.specs.Messages.{map_fault_text}
use Rattle.tl_list_text.specs.Texts.{lines}
use Rattle.tl_list_text.proofs.print.print_faults.Goals as goal

pub returns : goal.returns
returns g c =
    let page = g.met.P.Page.adding in
    both page (as_text page c.print_fault_lines.ensures (ap (lines map_fault_text) c.first_of.ensures)) c.print_end.ensures
