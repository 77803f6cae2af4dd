use Rattle.std.proofs.Common.{ap, arith, inl, inr, length}
use Rattle.tigertopo_faults.proofs.ShownLemmas.{shows_line, shows_rest}
use Rattle.tigertopo_faults.proofs.places.lines.show_line.Goals as goal

pub returns-in-Whole-clause-found : goal.returns-in-Whole-clause-found
returns-in-Whole-clause-found g c =
    let shows = c.in-Whole.ensures.shows in
    rw c.shown.ensures (shows_line _ (g.R.Source.remaining c.fetch_line.new.source) c.fetch_line.new.buffer c.in-Whole.len c.in-Whole.ensures.bytes shows.0 shows.1 shows.2)

pub returns-else-len-eq0-clause-found : goal.returns-else-len-eq0-clause-found
returns-else-len-eq0-clause-found g c =
    let shows = c.in-Rest.ensures.shows in
    let size = ap length c.bytes-len.ensures.value in
    rw (c.shown-in-Rest.ensures, size) (shows_rest _ (g.R.Source.remaining c.fetch_line.new.source) c.fetch_line.new.buffer c.in-Rest.ensures.bytes shows.0 (omega (arith, size)) (inl shows.1))

pub returns-in-Full-clause-found : goal.returns-in-Full-clause-found
returns-in-Full-clause-found g c =
    let shows = c.in-Full.ensures.shows in
    let size = ap length c.bytes.ensures.value in
    rw (c.shown-in-Full.ensures, size) (shows_rest _ (g.R.Source.remaining c.fetch_line.new.source) c.fetch_line.new.buffer c.in-Full.ensures.bytes shows.0 (omega (arith, shows.1)) (inr (omega (arith, shows.1))))
