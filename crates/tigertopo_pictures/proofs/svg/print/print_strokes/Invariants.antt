use Rattle.std.proofs.Common.{length}
use Rattle.std.specs.Prelude.{flat_map}
use Rattle.tigertopo_pictures.specs.Svg.Strokes.{strokes_left}
use Rattle.tigertopo_pictures.specs.Svg.Texts.{stroke_text}
use Rattle.tigertopo_pictures.proofs.PieceLemmas.{PrintsUpTo}
use Rattle.tigertopo_pictures.proofs.svg.print.print_strokes.Given as goal

abbrev pub invariant-loop-stroke : goal.invariant-loop-stroke
invariant-loop-stroke g l =
    PrintsUpTo g.P.Page.adds l.initial.page l.page
    (flat_map stroke_text (strokes_left l.initial.walk)) (flat_map stroke_text (strokes_left l.walk))

abbrev pub decreases-loop-stroke : goal.decreases-loop-stroke
decreases-loop-stroke g l = length (strokes_left l.walk)
