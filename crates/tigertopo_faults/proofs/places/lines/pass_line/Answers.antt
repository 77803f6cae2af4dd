use Rattle.std.proofs.Common.{ap, arith, ◌∙◌, not, List, ℕ, length, ◌==◌}
use Rattle.tigertopo_faults.proofs.ShownLemmas.{passes_line, passes_last, passes_full}
use Rattle.tigertopo_faults.proofs.places.lines.pass_line.Goals as goal

pub returns-in-Whole-clause-passes : goal.returns-in-Whole-clause-passes
returns-in-Whole-clause-passes g c =
    let shows = c.in-Whole.ensures.shows in
    passes_line _ (g.R.Source.remaining c.fetch_line.new.source) c.fetch_line.new.buffer c.consume_line.new.self c.in-Whole.len c.in-Whole.ensures.bytes shows.0 shows.1 shows.2 c.consume_line.ensures

pub returns-in-Rest-clause-passes : goal.returns-in-Rest-clause-passes
returns-in-Rest-clause-passes g c =
    let shows = c.in-Rest.ensures.shows in
    let last = passes_last _ (g.R.Source.remaining c.fetch_line.new.source) c.fetch_line.new.buffer _ (ap not c.is_empty-is_line.ensures ∙ ap (λ (l : List ℕ). not (length l == 0)) c.bytes.ensures.value) c.in-Rest.ensures.bytes shows.0 shows.1 in
    rw c.clear.ensures last

pub returns-in-Ok-clause-passes : goal.returns-in-Ok-clause-passes
returns-in-Ok-clause-passes g c =
    let shows = c.in-Full.ensures.shows in
    passes_full _ (g.R.Source.remaining c.fetch_line.new.source) _ c.fetch_line.new.buffer c.in-Ok.field-0 c.in-Full.ensures.bytes (omega (arith, shows.1)) c.in-Ok.ensures.skips
