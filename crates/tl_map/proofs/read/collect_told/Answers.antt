use Rattle.std.proofs.lemmas.Result.{err_from_is_err_and}
use Rattle.std.proofs.Common.{◌∙◌, [], inl, refl}
use Rattle.tl_record.specs.Reader.{standing_of, outcome}
use Rattle.tl_map.specs.declared.joined.told.ToldRecords.{ToldRecords}
use Rattle.tl_map.proofs.GatherLemmas.{gathers_told_more, none_failed, so_far_first, known_whole, stop_told, failure_told}
use Rattle.tl_map.proofs.read.collect_told.Goals as goal

pub records-preserved : goal.records-preserved
records-preserved g c = record {
  so_far =
      let gives = c.in-Ok-Some.ensures.gives in
      gathers_told_more _ _ _ _ _ _ _ _ (rw c.in-Ok-Some.field-0-is at gives) c.in_ok-add-in-Ok-Some.ensures c.records.invariant.so_far;
  failures =
      let failures = c.in-Ok-Some.ensures.failures in
      none_failed (standing_of c.records.reader) _ _ _ (rw c.in-Ok-Some.field-0-is at failures) ∙ c.records.invariant.failures;
  same = c.read_next.ensures.same_reference ∙ c.records.invariant.same;
  standing =
      let settles = c.in-Ok-Some.ensures.settles in
      rw c.in-Ok-Some.field-0-is at settles;
}

pub records-init : goal.records-init
records-init g c = record {
  so_far = record { records = []; kept = c.new-told.ensures; known = so_far_first (outcome g.R.Source.remaining c.args.reader.now) };
  failures = refl;
  same = refl;
  standing = inl c.requires;
}

pub returns-in-Ok-None : goal.returns-in-Ok-None
returns-in-Ok-None g c = record {
  all =
      let gives = c.in-Ok-None.ensures.gives in
      record { records = c.records.invariant.so_far.records; kept = c.records.invariant.so_far.kept; known = known_whole (outcome g.R.Source.remaining c.args.reader.now) _ _ _ _ (rw c.in-Ok-None.field-0-is at gives) c.records.invariant.so_far.known };
  stops = tt;
  failures =
      let failures = c.in-Ok-None.ensures.failures in
      none_failed (standing_of c.records.reader) _ _ _ (rw c.in-Ok-None.field-0-is at failures) ∙ c.records.invariant.failures;
  same_reference = c.read_next.ensures.same_reference ∙ c.records.invariant.same;
}

pub returns-in-Err : goal.returns-in-Err
returns-in-Err g c = rw c.from.ensures (record {
  all = tt;
  stops = stop_told (outcome g.R.Source.remaining c.args.reader.now) (outcome g.R.Source.remaining c.records.reader) (outcome g.R.Source.remaining c.read_next.new.self) _ c.records.invariant.so_far.records c.in-Err.stop c.in-Err.ensures.gives c.records.invariant.so_far.known;
  failures = failure_told ToldRecords (standing_of c.records.reader) c.records.reader c.read_next.new.self _ _ _ c.in-Err.stop c.records.invariant.standing c.in-Err.ensures.repeats c.in-Err.ensures.failures c.records.invariant.failures;
  same_reference = c.read_next.ensures.same_reference ∙ c.records.invariant.same;
})

pub returns-in_err-add-in-Ok-Some : goal.returns-in_err-add-in-Ok-Some
returns-in_err-add-in-Ok-Some g c =
    let p = err_from_is_err_and c.from_residual.result c.from_residual.ensures.1 in
    rw (p.1, p.2) (record {
      all = tt;
      stops = tt;
      failures =
          let failures = c.in-Ok-Some.ensures.failures in
          none_failed (standing_of c.records.reader) _ _ _ (rw c.in-Ok-Some.field-0-is at failures) ∙ c.records.invariant.failures;
      same_reference = c.read_next.ensures.same_reference ∙ c.records.invariant.same;
    })
