use Rattle.std.proofs.Common.{drop}
use Rattle.std.specs.Prelude.{flat_map}
use Rattle.tigertopo_pictures.proofs.PieceLemmas.{PrintsUpTo}
use Rattle.tigertopo_pictures.specs.Svg.Texts.{polygon_text}
use Rattle.tigertopo_pictures.proofs.svg.marks.print_points.Given as goal

abbrev pub invariant-loop-number : goal.invariant-loop-number
invariant-loop-number g l =
    PrintsUpTo g.P.Page.adds l.initial.page l.page
    (flat_map (polygon_text l.frame) l.map.polygons) (flat_map (polygon_text l.frame) (drop l.number l.map.polygons))
