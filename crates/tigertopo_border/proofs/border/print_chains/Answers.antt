use Rattle.std.proofs.Common.{refl, arith}
use Rattle.tl_cert_output.proofs.PageLemmas.{both, as_text}
use Rattle.tigertopo_border.proofs.PrintLemmas.{one_chain_more, all_chains}
use Rattle.tigertopo_border.proofs.border.print_chains.Goals as goal

pub loop-number-preserved : goal.loop-number-preserved
loop-number-preserved g c =
    let page = g.met.P.Page.adding in
    as_text page (both page c.loop-number.invariant c.print_if_blank.ensures)
    (one_chain_more c.args.name c.args.map.now c.args.map.now.chains c.loop-number.number refl (omega (arith, c.chains-number-end.ensures, c.loop-number-test.true)))

pub returns : goal.returns
returns g c =
    let page = g.met.P.Page.adding in
    as_text page c.loop-number.invariant (all_chains c.args.name c.args.map.now.chains c.loop-number.number (omega (arith, c.chains-number-end.ensures, c.loop-number-test.false)))
