use Rattle.tl_cert_output.proofs.PageLemmas.{both, as_text}
use Rattle.tl_cert_output.proofs.CauseLemmas.{with_field, without_field}
use Rattle.tl_cert_output.proofs.refusals.print_cause.Goals as goal

pub returns-in-Some : goal.returns-in-Some
returns-in-Some g c =
    let page = g.met.P.Page.adding in
    as_text page (both page (both page (both page c.add.ensures c.add-2.ensures) c.add-3.ensures) (both page c.add-in-Some.ensures c.print_field.ensures))
    (with_field c.args.cause _ _ _ _ _ _ c.row-field.ensures c.in-Some.is c.as_bytes.ensures.value c.as_bytes-2.ensures.value)

pub returns-in_default : goal.returns-in_default
returns-in_default g c =
    let page = g.met.P.Page.adding in
    as_text page (both page (both page c.add.ensures c.add-2.ensures) c.add-3.ensures)
    (without_field c.args.cause _ _ _ _ _ c.row-field.ensures c.in_default.is c.as_bytes.ensures.value c.as_bytes-2.ensures.value)
