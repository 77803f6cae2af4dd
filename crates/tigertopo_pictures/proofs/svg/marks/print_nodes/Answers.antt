use Rattle.std.proofs.Common.{ap, arith}
use Rattle.std.specs.Prelude.{flat_map}
use Rattle.tigertopo_pictures.specs.Svg.Texts.{ends_text}
use Rattle.tigertopo_pictures.proofs.SvgLemmas.DrawingLemmas.{drawings_next, drawings_end}
use Rattle.tigertopo_pictures.proofs.PieceLemmas.{at_start, piece_more, at_end}
use Rattle.tigertopo_pictures.proofs.svg.marks.print_nodes.Goals as goal

pub loop-number-init : goal.loop-number-init
loop-number-init g c =
    let page = g.met.P.Page.adding in
    at_start page

pub loop-number-preserved : goal.loop-number-preserved
loop-number-preserved g c =
    let page = g.met.P.Page.adding in
    let next = ap (flat_map (ends_text c.args.picture.frame)) (drawings_next c.args.picture.frame c.args.map.now.chains c.loop-number.number _ _ _ _ c.chain.ensures.chain) in
    piece_more page _ next c.loop-number.invariant (rw c.walk_along-walk.ensures.strokes at c.print_ends.ensures)

pub returns : goal.returns
returns g c =
    let page = g.met.P.Page.adding in
    at_end page (ap (flat_map (ends_text c.args.picture.frame)) (drawings_end c.args.picture.frame c.args.map.now.chains c.loop-number.number (omega arith))) c.loop-number.invariant
