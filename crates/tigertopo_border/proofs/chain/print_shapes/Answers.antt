use Rattle.tl_cert_output.proofs.PageLemmas.{both, as_text}
use Rattle.tigertopo_border.specs.Border.{inner}
use Rattle.tigertopo_border.proofs.PrintLemmas.{one_shape_more}
use Rattle.tigertopo_border.proofs.chain.print_shapes.Goals as goal

pub loop-number-preserved : goal.loop-number-preserved
loop-number-preserved g c =
    let page = g.met.P.Page.adding in
    as_text page (both page c.loop-number.invariant c.print_shape_line.ensures) (one_shape_more c.args.tlid (inner c.args.points.now) c.loop-number.number)
