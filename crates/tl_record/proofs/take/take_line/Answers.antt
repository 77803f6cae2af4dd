use Rattle.std.proofs.Common.{◌≡◌, ◌≢◌, [], ap, ◌∙◌, arith, length, take, false, ◌==◌}
use Rattle.tl_record.specs.Judgement.{judgement}
use Rattle.tl_record.specs.Refusals.{cause_of}
use Rattle.tl_record.proofs.SkipLemmas.{takes_line, takes_last, takes_full, skipped_behind, stops_full, takes_failed}
use Rattle.tl_record.proofs.take.take_line.Goals as goal

pub returns-in-Whole-clause-takes : goal.returns-in-Whole-clause-takes
returns-in-Whole-clause-takes g c =
    let shows = c.in-Whole.ensures.shows in
    takes_line c.args.layout.now c.args.number _ (g.R.Source.remaining c.fetch_line.new.source) c.fetch_line.new.buffer c.consume_line.new.self c.in-Whole.len c.refusal_cause-cause.result
    c.in-Whole.ensures.bytes shows.0 shows.1 shows.2
    (c.refusal_cause-cause.ensures ∙ ap (λ bytes. cause_of (judgement c.args.layout.now c.args.number (take c.in-Whole.len bytes))) c.bytes.ensures.value) c.consume_line.ensures

pub returns-else-is_empty-clause-takes : goal.returns-else-is_empty-clause-takes
returns-else-is_empty-clause-takes g c =
    let shows = c.in-Rest.ensures.shows in
    let some : c.fetch_line.new.buffer ≢ [] = λ none.
    let size : length c.bytes-in-Rest.result.now ≡ 0 = ap length (c.bytes-in-Rest.ensures.value ∙ none) in
    let full : false ≡ (length c.bytes-in-Rest.result.now == 0) = c.if-is_empty.ensures in
    let wrong = rw size at full in cc in
    rw c.clear.ensures (takes_last c.args.layout.now c.args.number _ (g.R.Source.remaining c.fetch_line.new.source) c.fetch_line.new.buffer c.refusal_cause-cause-in-Rest.result
    c.in-Rest.ensures.bytes shows.0 shows.1 some
    (c.refusal_cause-cause-in-Rest.ensures ∙ ap (λ bytes. cause_of (judgement c.args.layout.now c.args.number bytes)) c.bytes-in-Rest-2.ensures.value))

pub returns-in-Ok-clause-takes : goal.returns-in-Ok-clause-takes
returns-in-Ok-clause-takes g c =
    let shows = c.in-Full.ensures.shows in
    let cause = c.long_line_cause.ensures c.args.layout.now in
    takes_full c.args.layout.now c.args.number _ (g.R.Source.remaining c.fetch_line.new.source) _ c.fetch_line.new.buffer c.long_line_cause.result
    c.in-Full.ensures.bytes shows.0 (omega (arith, shows.1)) (λ line long. cause line (omega (arith, long, shows.1)))
    (skipped_behind _ _ c.in-Ok.field-0 c.in-Ok.ensures.skips)

pub returns-in-Whole-clause-failures : goal.returns-in-Whole-clause-failures
returns-in-Whole-clause-failures g c = c.in-Whole.ensures.failures

pub returns-in-Whole-clause-same_reference : goal.returns-in-Whole-clause-same_reference
returns-in-Whole-clause-same_reference g c = c.in-Whole.ensures.same_reference

pub returns-else-is_empty-clause-failures : goal.returns-else-is_empty-clause-failures
returns-else-is_empty-clause-failures g c = c.in-Rest.ensures.failures

pub returns-else-is_empty-clause-same_reference : goal.returns-else-is_empty-clause-same_reference
returns-else-is_empty-clause-same_reference g c = c.in-Rest.ensures.same_reference

pub returns-in-Ok-clause-failures : goal.returns-in-Ok-clause-failures
returns-in-Ok-clause-failures g c = c.in-Ok.ensures.failures ∙ c.in-Full.ensures.failures

pub returns-in-Ok-clause-same_reference : goal.returns-in-Ok-clause-same_reference
returns-in-Ok-clause-same_reference g c = c.in-Ok.ensures.same_reference ∙ c.in-Full.ensures.same_reference

pub returns-in-Err-clause-takes : goal.returns-in-Err-clause-takes
returns-in-Err-clause-takes g c =
    stops_full (Unit {0}) c.args.layout.now c.args.number _ (g.R.Source.remaining c.fetch_line.new.source) _ c.fetch_line.new.buffer c.in-Err.stop c.in-Full.ensures.bytes c.in-Err.ensures.skips

pub returns-in-Err-clause-same_reference : goal.returns-in-Err-clause-same_reference
returns-in-Err-clause-same_reference g c = c.in-Err.ensures.same_reference ∙ c.in-Full.ensures.same_reference

pub returns-in-Failed : goal.returns-in-Failed
returns-in-Failed g c = record {
  takes = takes_failed c.args.layout.now c.args.number _ _;
  failures = c.in-Failed.ensures.failures;
  same_reference = c.in-Failed.ensures.same_reference;
}
