use Rattle.std.proofs.Common.{◌∷◌, [], sym, arith}
use Rattle.tl_cert_output.proofs.PageLemmas.{both, as_text}
use Rattle.tl_cert.proofs.WriteLemmas.{lists_text, lists_joins, list_alone, text_next, text_all}
use Rattle.tl_cert.proofs.write.write_each_dart_list.Goals as goal

pub loop-darts-preserved : goal.loop-darts-preserved
loop-darts-preserved g c =
    let page = g.met.P.Page.adding in
    let word = c.args.letter ∷ [] in
    as_text page (both page c.loop-darts.invariant (as_text page c.write_dart_list.ensures (list_alone word _ c.darts-item.result c.as_slice.ensures.value)))
    (sym (text_next (lists_text word) (lists_joins word) c.args.lists.now c.loop-darts.darts-index _ _ c.loop-darts-test.true (sym c.darts-item.is)))

pub returns : goal.returns
returns g c =
    let page = g.met.P.Page.adding in
    as_text page c.loop-darts.invariant (text_all (lists_text (c.args.letter ∷ [])) c.args.lists.now c.loop-darts.darts-index (omega arith))
