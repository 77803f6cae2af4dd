use Rattle.tigertopo_pictures.specs.Svg.Fills.{fills_below}
use Rattle.tigertopo_pictures.proofs.svg.filled.print_polygons.Given as goal

abbrev pub invariant-loop-polygon : goal.invariant-loop-polygon
invariant-loop-polygon g l =
    g.P.Page.adds l.initial.page l.page (fills_below l.frame l.map.chains l.fills.filling l.polygon)
