use Rattle.std.proofs.Common.{refl}
use Rattle.tl_cert_output.proofs.PageLemmas.{both, as_text}
use Rattle.tigertopo_border.proofs.fields.print_filled.Goals as goal

pub returns : goal.returns
returns g c =
    let page = g.met.P.Page.adding in
    as_text page (both page c.print_bytes.ensures c.add.ensures) (rw (c.saturating_sub.ensures, c.as_bytes.ensures.value, c.format-text.ensures.text) refl)
