use Rattle.tl_cert_output.proofs.PageLemmas.{both, as_text}
use Rattle.tigertopo_border.specs.Border.{inner}
use Rattle.tigertopo_border.proofs.PrintLemmas.{one_pair_more}
use Rattle.tigertopo_border.proofs.lines.print_pairs.Goals as goal

pub loop-place-preserved : goal.loop-place-preserved
loop-place-preserved g c =
    let page = g.met.P.Page.adding in
    as_text page (both page c.loop-place.invariant c.print_pair.ensures) (one_pair_more (inner c.args.points.now) c.args.first c.loop-place.place c.inner_point.result c.inner_point.ensures)
