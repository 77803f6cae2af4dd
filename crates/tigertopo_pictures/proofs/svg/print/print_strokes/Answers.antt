use Rattle.std.proofs.Common.{ap}
use Rattle.std.specs.Prelude.{flat_map}
use Rattle.tigertopo_pictures.specs.Svg.Texts.{stroke_text}
use Rattle.tigertopo_pictures.proofs.PieceLemmas.{at_start, piece_more}
use Rattle.tigertopo_pictures.proofs.svg.print.print_strokes.Goals as goal

pub loop-stroke-init : goal.loop-stroke-init
loop-stroke-init g c =
    let page = g.met.P.Page.adding in
    at_start page

pub loop-stroke-preserved : goal.loop-stroke-preserved
loop-stroke-preserved g c =
    let page = g.met.P.Page.adding in
    piece_more page _ (ap (flat_map stroke_text) c.in-Some.ensures) c.loop-stroke.invariant c.print_stroke.ensures
