use Rattle.std.proofs.Common.{arith, option_map}
use Rattle.tl_cert_output.proofs.PageLemmas.{as_text}
use Rattle.tigertopo_pictures.proofs.GeojsonLemmas.FeatureLemmas.{feature_of_chain}
use Rattle.tigertopo_pictures.proofs.geojson.features.print_chain.Goals as goal

pub print_line-requires : goal.print_line-requires
print_line-requires g c = omega (arith, c.chain.ensures.points.several)

pub returns : goal.returns
returns g c =
    let page = g.met.P.Page.adding in
    as_text page c.print_line.ensures (feature_of_chain (option_map (λ name. name.now) c.args.file) c.args.map.now c.args.number _ _ _ _ c.chain.ensures.chain)
