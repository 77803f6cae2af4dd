use Rattle.std.proofs.Common.{ℕ, List, Option, refl, ap, ◌∙◌}
use Rattle.tl_record.specs.declared.stop.Field.{Field}
use Rattle.tl_cert_output.proofs.PageLemmas.{both, as_text}
use Rattle.tigertopo_faults.proofs.hint.object.print_cause_members.Goals as goal

pub returns : goal.returns
returns g c =
    let page = g.met.P.Page.adding in
    let code = c.as_bytes.ensures.value ∙ ap (λ (row : List ℕ × List ℕ × Option Field). row.0) c.row.ensures in
    let name = c.as_bytes-2.ensures.value ∙ ap (λ (row : List ℕ × List ℕ × Option Field). row.1) c.row.ensures in
    as_text page (both page (both page (both page c.add.ensures c.print_string.ensures) c.add-2.ensures) c.print_string-2.ensures) (rw (code, name) refl)
