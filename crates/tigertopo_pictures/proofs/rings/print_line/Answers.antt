use Rattle.std.proofs.Common.{arith}
use Rattle.tl_map_county.specs.Darts.{directed}
use Rattle.tigertopo_pictures.proofs.PieceLemmas.{at_start, piece_more, at_end}
use Rattle.tigertopo_pictures.proofs.RingLemmas.{line_step, line_end}
use Rattle.tigertopo_pictures.proofs.rings.print_line.Goals as goal

pub loop-place-init : goal.loop-place-init
loop-place-init g c =
    let page = g.met.P.Page.adding in
    (omega arith, at_start page)

pub loop-place-preserved : goal.loop-place-preserved
loop-place-preserved g c =
    let page = g.met.P.Page.adding in (
      omega arith,
      piece_more page _ (line_step (g.N.Pen.pen c.args.pen.now) (directed c.args.is_along c.args.points.now) c.loop-place.place _ _ c.loop-place.invariant.0 c.point_at-from.ensures c.point_at-to.ensures)
          c.loop-place.invariant.1 c.step.ensures,
    )

pub returns : goal.returns
returns g c =
    let page = g.met.P.Page.adding in
    at_end page (line_end (g.N.Pen.pen c.args.pen.now) c.args.is_along c.args.points.now c.loop-place.place (omega arith)) c.loop-place.invariant.1
