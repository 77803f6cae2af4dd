use Rattle.std.proofs.Common.{arith}
use Rattle.tigertopo_faults.proofs.WordLemmas.{shown_next, shown_end}
use Rattle.tigertopo_pictures.proofs.PieceLemmas.{at_start, piece_more, at_end}
use Rattle.tigertopo_faults.proofs.hint.shown.print_shown.Goals as goal

pub loop-byte-init : goal.loop-byte-init
loop-byte-init g c =
    let page = g.met.P.Page.adding in
    at_start page

pub loop-byte-preserved : goal.loop-byte-preserved
loop-byte-preserved g c =
    let page = g.met.P.Page.adding in
    piece_more page _ (shown_next c.args.bytes.now c.loop-byte.byte-index _ c.loop-byte-test.true) c.loop-byte.invariant c.print_byte.ensures

pub returns : goal.returns
returns g c =
    let page = g.met.P.Page.adding in
    at_end page (shown_end c.args.bytes.now c.loop-byte.byte-index (omega (arith, c.loop-byte-test.false))) c.loop-byte.invariant
