use Rattle.std.proofs.Common.{option_map}
use Rattle.tigertopo_pictures.specs.Geojson.Features.{features_below, chain_feature}
use Rattle.tigertopo_pictures.proofs.geojson.features.print_chains.Given as goal

abbrev pub invariant-loop-number : goal.invariant-loop-number
invariant-loop-number g l =
    g.P.Page.adds l.initial.page l.page (features_below 0 (chain_feature (option_map (λ name. name.now) l.file) l.map) l.number)
