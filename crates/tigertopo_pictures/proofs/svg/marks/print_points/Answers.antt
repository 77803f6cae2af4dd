use Rattle.std.proofs.Common.{ap, arith}
use Rattle.std.specs.Prelude.{flat_map}
use Rattle.tigertopo_pictures.specs.Svg.Texts.{polygon_text}
use Rattle.tigertopo_pictures.proofs.PieceLemmas.{from_place, at_start, piece_more, at_end, flat_end}
use Rattle.tigertopo_pictures.proofs.svg.marks.print_points.Goals as goal

pub loop-number-init : goal.loop-number-init
loop-number-init g c =
    let page = g.met.P.Page.adding in
    at_start page

pub loop-number-preserved : goal.loop-number-preserved
loop-number-preserved g c =
    let page = g.met.P.Page.adding in
    piece_more page _ (ap (flat_map (polygon_text c.args.frame)) (from_place c.args.map.now.polygons c.loop-number.number _ c.polygon.ensures)) c.loop-number.invariant c.print_dot.ensures

pub returns : goal.returns
returns g c =
    let page = g.met.P.Page.adding in
    at_end page (flat_end (polygon_text c.args.frame) c.args.map.now.polygons c.loop-number.number (omega arith)) c.loop-number.invariant
