use Rattle.std.proofs.Common.{map, string_bytes, arith}
use Rattle.std.specs.Prelude.{option_copied}
use Rattle.tigertopo_faults.specs.Records.SpokenOf.{chains_of}
use Rattle.tigertopo_faults.specs.Records.Keeping.{held}
use Rattle.tigertopo_faults.proofs.LinesLemmas.SpokenLemmas.{fault_next, faults_end}
use Rattle.tigertopo_pictures.proofs.PieceLemmas.{at_start, piece_more, at_end}
use Rattle.tigertopo_faults.proofs.lines.text.print_faults.Goals as goal

pub loop-number-init : goal.loop-number-init
loop-number-init g c =
    let page = g.met.P.Page.adding in
    at_start page

pub loop-number-preserved : goal.loop-number-preserved
loop-number-preserved g c =
    let page = g.met.P.Page.adding in
    piece_more page _ (fault_next (map string_bytes c.args.names.now) c.args.counts.now (chains_of (option_copied c.args.drawn)) (held c.args.lines.now) c.args.places.now c.args.faults.now c.loop-number.number c.index-faults-number.result c.loop-number-test.true c.index-faults-number.is) c.loop-number.invariant
    (rw c.place_at-at.ensures at c.print_placed.ensures)

pub returns : goal.returns
returns g c =
    let page = g.met.P.Page.adding in
    at_end page (faults_end (map string_bytes c.args.names.now) c.args.counts.now (chains_of (option_copied c.args.drawn)) (held c.args.lines.now) c.args.places.now c.args.faults.now c.loop-number.number (omega (arith, c.loop-number-test.false))) c.loop-number.invariant
