use Rattle.std.proofs.Common.{arith}
use Rattle.tl_cert_output.proofs.PageLemmas.{both, as_text}
use Rattle.tigertopo_faults.proofs.GeojsonLemmas.ChainLemmas.{named_next}
use Rattle.tigertopo_faults.proofs.geojson.chains.print_chains_of.Goals as goal

pub loop-number-preserved : goal.loop-number-preserved
loop-number-preserved g c =
    let page = g.met.P.Page.adding in
    as_text page (both page c.loop-number.invariant c.print_named.ensures) (named_next c.args.map.now c.args.tlids.now c.loop-number.number (omega arith))
