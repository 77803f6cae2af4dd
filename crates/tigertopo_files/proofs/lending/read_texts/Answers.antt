use Rattle.std.proofs.Common.{inl, inr, map, string_bytes, ◌∙◌}
use Rattle.std.specs.Option.{option_map}
use Rattle.tl_cert_output.proofs.StopLemmas.{stops_for}
use Rattle.tigertopo_files.proofs.LendingLemmas.{either_failed, missing_joined, missing_single, not_opened, was_read, was_stopped}
use Rattle.tigertopo_files.proofs.lending.read_texts.Goals as goal

pub returns-in_err-joined : goal.returns-in_err-joined
returns-in_err-joined g c =
    let single = option_map (λ name. string_bytes name.now) c.args.single in
    not_opened _ _ _ c.from_residual.result c.in_err-joined.field-0.0 c.from_residual.ensures.1
    (stops_for _ _ c.in_err-joined.field-0.0 inl (missing_joined (g.O.Opener.held c.args.opener.now) (map string_bytes c.args.names.now) single c.in_err-joined.field-0.0 c.in_err-joined.ensures.failed))

pub returns-in_err-alone : goal.returns-in_err-alone
returns-in_err-alone g c =
    let single = option_map (λ name. string_bytes name.now) c.args.single in
    not_opened _ _ _ c.from_residual-in_err-alone.result c.in_err-alone.field-0.0 c.from_residual-in_err-alone.ensures.1
    (stops_for _ _ c.in_err-alone.field-0.0 inl (missing_single (g.O.Opener.held c.args.opener.now) (map string_bytes c.args.names.now) single c.in_err-alone.field-0.0 c.in_err-alone.ensures.failed))

pub returns-in_err-answer : goal.returns-in_err-answer
returns-in_err-answer g c =
    was_stopped _ _ _ c.read.result c.from_residual-in_err-answer.result c.in_err-answer.field-0.0 _ c.in_err-answer.was c.from_residual-in_err-answer.ensures.1
    (rw (c.in_ok-joined.ensures.bytes, c.in_ok-alone.ensures.bytes) at c.read.ensures.stopped)
    (rw (c.in_ok-joined.ensures.bytes, c.in_ok-alone.ensures.bytes) at c.read.ensures.failures)
    (λ some. inr (either_failed g.O.Reader.Source.failure_count (λ buffered. buffered.source) c.read.new.joined.source.readers.items c.read.new.single.source some))

pub returns-in_err-line_counts : goal.returns-in_err-line_counts
returns-in_err-line_counts g c =
    not_opened _ _ _ c.from_residual-in_err-line_counts.result c.in_err-line_counts.field-0.0 c.from_residual-in_err-line_counts.ensures.1 (stops_for _ _ c.in_err-line_counts.field-0.0 inr c.in_err-line_counts.ensures.stop)

pub returns : goal.returns
returns g c =
    was_read _ _ _ _ (record {
      answered = rw (c.in_ok-joined.ensures.bytes, c.in_ok-alone.ensures.bytes) at c.in_ok-answer.ensures.answered;
      counted = λ texts known. c.in_ok-line_counts.ensures.counts texts (c.requires ∙ known);
    })
