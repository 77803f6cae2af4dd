use Rattle.std.proofs.Common.{◌+◌, arith, rules}
use Rattle.std.specs.Prelude.{slice_index}
use Rattle.tigertopo_words.specs.Names.{shown_between}
use Rattle.tigertopo_faults.proofs.WordLemmas.{told_next, told_end}
use Rattle.tigertopo_pictures.proofs.PieceLemmas.{at_start, piece_more, at_end}
use Rattle.tigertopo_faults.proofs.shown.names.print_shown.Goals as goal

pub loop-at-init : goal.loop-at-init
loop-at-init g c =
    let page = g.met.P.Page.adding in
    at_start page

pub loop-at-preserved : goal.loop-at-preserved
loop-at-preserved g c =
    let page = g.met.P.Page.adding in
    let piece : g.P.Page.adds _ _ (shown_between c.loop-at.before (slice_index c.args.bytes.now c.loop-at.at) (slice_index c.args.bytes.now (c.loop-at.at + 1))) = search rules in
    piece_more page _ (told_next shown_between c.args.bytes.now c.loop-at.at c.loop-at.before c.loop-at-test.true) c.loop-at.invariant piece

pub returns : goal.returns
returns g c =
    let page = g.met.P.Page.adding in
    at_end page (told_end shown_between c.args.bytes.now c.loop-at.at c.loop-at.before (omega (arith, c.loop-at-test.false))) c.loop-at.invariant
