use Rattle.std.proofs.Common.{ℕ, List, Option, ap}
use Rattle.tl_record.specs.declared.stop.Field.{Field}
use Rattle.tigertopo_faults.specs.Hint.Objects.{field_string, refused_object}
use Rattle.tl_cert_output.proofs.PageLemmas.{both, as_text}
use Rattle.tigertopo_faults.proofs.hint.object.print_refused_object.Goals as goal

pub returns : goal.returns
unfolding refused_object
returns g c =
    let page = g.met.P.Page.adding in
    let field = as_text page c.print_field_string.ensures (ap (λ (row : List ℕ × List ℕ × Option Field). field_string row.2) c.row.ensures) in
    both page (both page (both page (both page (both page (both page c.add.ensures c.print_cause_members.ensures) c.add-2.ensures) c.number.ensures) c.add-3.ensures) field) c.add-4.ensures
