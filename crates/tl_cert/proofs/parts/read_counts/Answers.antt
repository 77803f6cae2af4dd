use Rattle.std.proofs.Common.{◌∷◌, [], ℕ, refl, ◌∙◌}
use Rattle.tl_cert.specs.declared.certificate.Counts.{Counts}
use Rattle.tl_cert.specs.Keeping.Parts.{AreVersionedCounts, versioned_lines}
use Rattle.tl_cert.specs.Text.{head_line, counts_line}
use Rattle.tl_cert.specs.Keeping.Steps.{start, headed, no_line, first_line, at_head}
use Rattle.tl_cert.specs.Keeping.Lines.{at}
use Rattle.tl_cert.proofs.PartLemmas.{takes_none, takes_more, line_missing}
use Rattle.tl_cert.proofs.AllowedLemmas.{allowed_head, allowed_counts}
use Rattle.tl_cert.proofs.FailureLemmas.{fails_later}
use Rattle.tl_cert.proofs.parts.read_counts.Goals as goal

pub returns-in-Err-clause-reads : goal.returns-in-Err-clause-reads
returns-in-Err-clause-reads g c =
    line_missing {T = Counts × ℕ} g.R.Source.remaining head_line _ AreVersionedCounts versioned_lines start start [] (at c.args.lines.now c.args.source.now) (at c.args.lines.now c.args.source.now) (at c.read.new.self c.read.new.source) (at c.read.new.self c.read.new.source) c.in-Err.stop
    (no_line start) (takes_none g.R.Source.remaining (at c.args.lines.now c.args.source.now)) allowed_head (λ e. cc e) c.in-Err.ensures.reads refl

pub returns-in-Err-read-clause-reads : goal.returns-in-Err-read-clause-reads
returns-in-Err-read-clause-reads g c =
    line_missing {T = Counts × ℕ} g.R.Source.remaining counts_line _ AreVersionedCounts versioned_lines start (headed c.in-Ok.version) (head_line c.in-Ok.version ∷ []) (at c.args.lines.now c.args.source.now) (at c.read.new.self c.read.new.source) (at c.read-2.new.self c.read-2.new.source) (at c.read-2.new.self c.read-2.new.source) c.in-Err-read.stop
    (first_line start (headed c.in-Ok.version) (headed c.in-Ok.version) (head_line c.in-Ok.version) [] (at_head c.in-Ok.version c.in-Ok.ensures.reads.0) (no_line (headed c.in-Ok.version)))
    c.in-Ok.ensures.reads.1 (allowed_counts c.in-Ok.version) (λ e. cc e) c.in-Err-read.ensures.reads refl

pub returns-in-Err-clause-failures : goal.returns-in-Err-clause-failures
returns-in-Err-clause-failures g c = fails_later ℕ (Counts × ℕ) _ _ _ c.in-Err.stop refl c.in-Err.ensures.failures

pub returns-in-Err-clause-same_reference : goal.returns-in-Err-clause-same_reference
returns-in-Err-clause-same_reference g c = c.in-Err.ensures.same_reference

pub returns-in-Err-read-clause-failures : goal.returns-in-Err-read-clause-failures
returns-in-Err-read-clause-failures g c = fails_later Counts (Counts × ℕ) _ _ _ c.in-Err-read.stop c.in-Ok.ensures.failures c.in-Err-read.ensures.failures

pub returns-in-Err-read-clause-same_reference : goal.returns-in-Err-read-clause-same_reference
returns-in-Err-read-clause-same_reference g c = c.in-Err-read.ensures.same_reference ∙ c.in-Ok.ensures.same_reference

pub returns-in-Ok-read-clause-reads : goal.returns-in-Ok-read-clause-reads
returns-in-Ok-read-clause-reads g c = (
  (c.in-Ok-read.ensures.reads.0, c.in-Ok.ensures.reads.0),
  takes_more g.R.Source.remaining (at c.args.lines.now c.args.source.now) (at c.read.new.self c.read.new.source) (at c.read-2.new.self c.read-2.new.source) (head_line c.in-Ok.version ∷ []) (counts_line c.in-Ok-read.counts ∷ []) c.in-Ok.ensures.reads.1 c.in-Ok-read.ensures.reads.1,
)

pub returns-in-Ok-read-clause-failures : goal.returns-in-Ok-read-clause-failures
returns-in-Ok-read-clause-failures g c = c.in-Ok-read.ensures.failures ∙ c.in-Ok.ensures.failures

pub returns-in-Ok-read-clause-same_reference : goal.returns-in-Ok-read-clause-same_reference
returns-in-Ok-read-clause-same_reference g c = c.in-Ok-read.ensures.same_reference ∙ c.in-Ok.ensures.same_reference
