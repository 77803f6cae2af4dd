use Rattle.std.proofs.Common.{rules}
use Rattle.tl_cert_output.proofs.PageLemmas.{both, as_text}
use Rattle.tigertopo_faults.proofs.hint.refused.LineHintText.add_to.Goals as goal

pub returns-clause-adds : goal.returns-clause-adds
returns-clause-adds g c =
    let page = g.met.P.Page.adding in
    as_text page (both page (both page (both page c.print_place.ensures c.add.ensures) c.print_columns_hint.ensures) c.print_form_hint.ensures) (search rules)
