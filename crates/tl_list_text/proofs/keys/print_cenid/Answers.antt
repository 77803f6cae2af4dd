use Rattle.std.proofs.Common.{ap, ◌∙◌}
use Rattle.tl_cert_output.proofs.PageLemmas.{both, as_text}
use Rattle.tl_record_key.specs.KeyText.{cenid_text}
use Rattle.tl_list_text.proofs.LineLemmas.{cenid_parts, letters}
use Rattle.tl_list_text.proofs.keys.print_cenid.Goals as goal

pub returns : goal.returns
returns g c =
    let page = g.met.P.Page.adding in
    let key = c.args.key in
    as_text page (both page (both page (both page (both page c.print_char.ensures c.print_char-2.ensures) c.print_char-3.ensures) c.print_char-4.ensures) c.print_char-5.ensures)
    (ap letters c.shown_cenid.ensures ∙ cenid_parts (cenid_text key 0) (cenid_text key 1) (cenid_text key 2) (cenid_text key 3) (cenid_text key 4))
