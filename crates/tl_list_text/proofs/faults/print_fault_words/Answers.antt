use Rattle.std.proofs.Common.{ap}
use Rattle.tl_cert_output.proofs.PageLemmas.{both, as_text}
use Rattle.tl_map_rules.specs.Rows.{Row}
use Rattle.tl_check_verdict.specs.declared.rows.About.{About}
use Rattle.tl_check_verdict.specs.Messages.{row_text}
use Rattle.tl_list_text.proofs.faults.print_fault_words.Goals as goal

pub returns : goal.returns
returns g c =
    let page = g.met.P.Page.adding in
    as_text page (both page (both page (both page (as_text page c.add.ensures c.as_bytes.ensures.value) c.add-2.ensures) (as_text page c.add-3.ensures c.as_bytes-2.ensures.value)) c.print_about.ensures) (ap (λ (row : Row About). row_text row) c.row-says.ensures)
