use Rattle.std.proofs.Common.{map, string_bytes, arith}
use Rattle.tigertopo_faults.proofs.LinesLemmas.SpokenLemmas.{line_next, lines_end}
use Rattle.tigertopo_pictures.proofs.PieceLemmas.{at_start, piece_more, at_end}
use Rattle.tigertopo_faults.proofs.lines.line.print_record_lines.Goals as goal

pub loop-line-init : goal.loop-line-init
loop-line-init g c =
    let page = g.met.P.Page.adding in
    at_start page

pub loop-line-preserved : goal.loop-line-preserved
loop-line-preserved g c =
    let page = g.met.P.Page.adding in
    piece_more page _ (line_next (map string_bytes c.args.names.now) c.args.counts.now c.args.at c.args.lines.now c.loop-line.line-index _ c.loop-line-test.true) c.loop-line.invariant
    c.print_record_line.ensures

pub returns : goal.returns
returns g c =
    let page = g.met.P.Page.adding in
    at_end page (lines_end (map string_bytes c.args.names.now) c.args.counts.now c.args.at c.args.lines.now c.loop-line.line-index (omega (arith, c.loop-line-test.false))) c.loop-line.invariant
