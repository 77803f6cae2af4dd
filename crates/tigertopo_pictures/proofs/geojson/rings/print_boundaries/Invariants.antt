use Rattle.std.proofs.Common.{map, option_map}
use Rattle.tigertopo_pictures.specs.Geojson.Features.{features_below}
use Rattle.tigertopo_pictures.specs.Geojson.Rings.{boundary_feature}
use Rattle.tigertopo_pictures.proofs.geojson.rings.print_boundaries.Given as goal

abbrev pub invariant-loop-number : goal.invariant-loop-number
invariant-loop-number g l =
    g.P.Page.adds l.initial.page l.page
    (features_below l.before (boundary_feature (option_map (λ name. name.now) l.file) l.map (map (λ w. w.items) l.walks)) l.number)
