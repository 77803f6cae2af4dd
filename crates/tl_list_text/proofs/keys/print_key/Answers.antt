use Rattle.std.proofs.Common.{codes, decimal}
use Rattle.tl_cert_output.proofs.PageLemmas.{both, as_text}
use Rattle.tl_record_key.specs.KeyText.{cenid_text}
use Rattle.tl_list_text.proofs.LineLemmas.{key_parts}
use Rattle.tl_list_text.proofs.keys.print_key.Goals as goal

pub returns : goal.returns
returns g c =
    let page = g.met.P.Page.adding in
    let key = c.args.key in
    as_text page (both page (both page c.print_cenid.ensures c.add.ensures) c.number.ensures)
    (key_parts (cenid_text key 0) (cenid_text key 1) (cenid_text key 2) (cenid_text key 3) (cenid_text key 4) (codes "/") (decimal key.polyid))
