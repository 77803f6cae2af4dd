use Rattle.std.proofs.Common.{drop}
use Rattle.std.specs.Prelude.{flat_map}
use Rattle.tigertopo_pictures.proofs.PieceLemmas.{PrintsUpTo}
use Rattle.tigertopo_pictures.specs.Svg.Strokes.{drawings}
use Rattle.tigertopo_pictures.specs.Svg.Pictures.{drawn}
use Rattle.tigertopo_pictures.specs.Svg.Texts.{drawing_text}
use Rattle.tigertopo_pictures.proofs.svg.print.print_drawings.Given as goal

abbrev pub invariant-loop-number : goal.invariant-loop-number
invariant-loop-number g l =
    PrintsUpTo g.P.Page.adds l.initial.page l.page
    (flat_map drawing_text (drawn l.picture l.map)) (flat_map drawing_text (drawings l.picture.frame (drop l.number l.map.chains)))
