use Rattle.std.proofs.Common.{◌≡◌, take, refl, sym, arith}
use Rattle.std.proofs.lemmas.List.{take_all}
use Rattle.tl_cert_output.proofs.PageLemmas.{both, as_text}
use Rattle.tigertopo_program.proofs.PrintingLemmas.{chains_text-next}
use Rattle.tigertopo_program.proofs.print.chains.print_chains.Goals as goal

pub loop-chain-preserved : goal.loop-chain-preserved
loop-chain-preserved g c =
    let page = g.met.P.Page.adding in
    as_text page (both page c.loop-chain.invariant c.print_chain.ensures)
    (sym (chains_text-next c.args.chains.now.chains c.loop-chain.chain c.tlid.result c.points.result.now c.tlid.ensures c.points.ensures))

pub returns : goal.returns
returns g c =
    let page = g.met.P.Page.adding in
    let list = c.args.chains.now.chains in
    let all : take c.loop-chain.chain list ≡ list = take_all _ _ (omega (arith, c.loop-chain-test.false, c.len-chain-end.ensures)) in
    as_text page (both page c.loop-chain.invariant c.print_counts.ensures) (rw (all, c.len.ensures, c.segments.ensures.count, c.skipped.ensures) refl)
