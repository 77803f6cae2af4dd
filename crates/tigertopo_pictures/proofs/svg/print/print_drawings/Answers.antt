use Rattle.std.proofs.Common.{ap, arith}
use Rattle.std.specs.Prelude.{flat_map}
use Rattle.tl_cert_output.proofs.PageLemmas.{as_text}
use Rattle.tigertopo_pictures.specs.Svg.Texts.{stroke_text, drawing_text}
use Rattle.tigertopo_pictures.proofs.SvgLemmas.DrawingLemmas.{drawings_next, drawings_end}
use Rattle.tigertopo_pictures.proofs.PieceLemmas.{at_start, piece_more, at_end}
use Rattle.tigertopo_pictures.proofs.svg.print.print_drawings.Goals as goal

pub loop-number-init : goal.loop-number-init
loop-number-init g c =
    let page = g.met.P.Page.adding in
    at_start page

pub loop-number-preserved : goal.loop-number-preserved
loop-number-preserved g c =
    let page = g.met.P.Page.adding in
    let next = ap (flat_map drawing_text) (drawings_next c.args.picture.frame c.args.map.now.chains c.loop-number.number _ _ _ _ c.chain.ensures.chain) in
    piece_more page _ next c.loop-number.invariant (as_text page c.print_strokes.ensures (ap (flat_map stroke_text) c.walk_along-walk.ensures.strokes))

pub returns : goal.returns
returns g c =
    let page = g.met.P.Page.adding in
    at_end page (ap (flat_map drawing_text) (drawings_end c.args.picture.frame c.args.map.now.chains c.loop-number.number (omega arith))) c.loop-number.invariant
