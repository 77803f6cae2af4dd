use Rattle.std.proofs.Common.{sym, ◌∙◌}
use Rattle.tl_cert_output.proofs.PageLemmas.{both, as_text}
use Rattle.tigertopo_faults.proofs.GeojsonLemmas.ChainLemmas.{named_is}
use Rattle.tigertopo_faults.proofs.geojson.chains.print_named.Goals as goal

pub returns-then-is_among : goal.returns-then-is_among
returns-then-is_among g c =
    let page = g.met.P.Page.adding in
    as_text page (both page c.add.ensures c.print_chain.ensures)
    (named_is c.args.map.now c.args.tlids.now c.args.number _ _ _ _ c.chain.ensures.chain (sym c.is_among.ensures ∙ c.if-is_among.true))
