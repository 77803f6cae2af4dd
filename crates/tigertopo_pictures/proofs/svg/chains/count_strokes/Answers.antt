use Rattle.std.proofs.Common.{arith}
use Rattle.tigertopo_pictures.proofs.SvgLemmas.DrawingLemmas.{strokes_few}
use Rattle.tigertopo_pictures.proofs.svg.chains.count_strokes.Goals as goal

pub overflow_add-count : goal.overflow_add-count
overflow_add-count c =
    let w = c.args.walk.now in
    omega (arith, strokes_few w.frame w.end w.last w.rest.now)
