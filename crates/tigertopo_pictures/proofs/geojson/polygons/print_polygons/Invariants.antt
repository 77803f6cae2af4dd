use Rattle.std.proofs.Common.{option_map}
use Rattle.tigertopo_pictures.specs.Geojson.Features.{features_below, polygon_feature}
use Rattle.tigertopo_pictures.proofs.geojson.polygons.print_polygons.Given as goal

abbrev pub invariant-loop-number : goal.invariant-loop-number
invariant-loop-number g l =
    g.P.Page.adds l.initial.page l.page
    (features_below l.before (polygon_feature (option_map (λ name. name.now) l.file) l.map) l.number)
