use Rattle.std.proofs.Common.{◌∷◌, []}
use Rattle.tl_cert_output.proofs.PageLemmas.{both, as_text}
use Rattle.tl_cert.proofs.WriteLemmas.{lists_counted}
use Rattle.tl_cert.proofs.write.write_dart_lists.Goals as goal

pub returns : goal.returns
returns g c =
    let page = g.met.P.Page.adding in
    as_text page (both page c.write_number.ensures c.write_each_dart_list.ensures) (lists_counted (c.args.letter ∷ []) (c.args.each ∷ []) c.args.lists.now)
