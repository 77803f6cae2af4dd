use Rattle.std.proofs.Common.{string_bytes, arith}
use Rattle.tigertopo_faults.specs.Hint.Advice.{asking}
use Rattle.tigertopo_faults.proofs.HintLemmas.UnreadLemmas.{file_next, files_end}
use Rattle.tigertopo_pictures.proofs.PieceLemmas.{at_start, piece_more, at_end}
use Rattle.tigertopo_faults.proofs.hint.unread.print_files.Goals as goal

pub loop-at-init : goal.loop-at-init
loop-at-init g c =
    let page = g.met.P.Page.adding in
    at_start page

pub loop-at-preserved : goal.loop-at-preserved
loop-at-preserved g c =
    let page = g.met.P.Page.adding in
    let told = rw c.as_str.ensures.value at c.print_told.ensures in
    piece_more page _ (file_next string_bytes (asking c.args.by) c.args.names.now c.args.held.now c.loop-at.at c.index-names-at.result _ c.loop-at-test.true (omega (arith, c.requires, c.loop-at-test.true)) c.index-names-at.is) c.loop-at.invariant told

pub returns : goal.returns
returns g c =
    let page = g.met.P.Page.adding in
    at_end page (files_end string_bytes (asking c.args.by) c.args.names.now c.args.held.now c.loop-at.at (omega (arith, c.loop-at-test.false))) c.loop-at.invariant
