use Rattle.std.proofs.Common.{arith, option_map}
use Rattle.tigertopo_pictures.specs.Geojson.Features.{chain_feature}
use Rattle.tl_cert_output.proofs.PageLemmas.{both, as_text}
use Rattle.tigertopo_pictures.proofs.GeojsonLemmas.FeatureLemmas.{one_feature_more}
use Rattle.tigertopo_pictures.proofs.geojson.features.print_chains.Goals as goal

pub loop-number-preserved : goal.loop-number-preserved
loop-number-preserved g c =
    let page = g.met.P.Page.adding in
    as_text page (both page (both page c.loop-number.invariant c.print_lead.ensures) c.print_chain.ensures)
    (one_feature_more 0 c.loop-number.number _ (chain_feature (option_map (λ name. name.now) c.args.file) c.args.map.now) (omega (arith, c.from.ensures)))
