use Rattle.std.proofs.Common.{arith, refl}
use Rattle.std.proofs.lemmas.Option.{slice_get_read}
use Rattle.tigertopo_pictures.proofs.PieceLemmas.{at_start, piece_more, at_end}
use Rattle.tigertopo_pictures.proofs.SvgLemmas.TextLemmas.{faults_next, faults_end}
use Rattle.tigertopo_pictures.proofs.svg.marks.print_faults.Goals as goal

pub loop-number-init : goal.loop-number-init
loop-number-init g c =
    let page = g.met.P.Page.adding in
    at_start page

pub loop-number-preserved : goal.loop-number-preserved
loop-number-preserved g c =
    let page = g.met.P.Page.adding in
    let is = slice_get_read c.args.faults.now _ _ _ refl c.loop-number-test.true c.index-faults-number.is in
    let there = slice_get_read c.args.places.now _ _ _ refl (omega arith) c.index-places-number.is in
    piece_more page _ (faults_next c.args.frame c.args.faults.now c.args.places.now c.loop-number.number _ _ is there) c.loop-number.invariant c.print_fault.ensures

pub returns : goal.returns
returns g c =
    let page = g.met.P.Page.adding in
    at_end page (faults_end c.args.frame c.args.faults.now c.args.places.now c.loop-number.number (omega arith)) c.loop-number.invariant
