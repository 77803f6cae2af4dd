use Rattle.std.proofs.Common.{◌+◌, refl, sym, take, drop, arith}
use Rattle.tl_record.specs.Meaning.{judgement_with}
use Rattle.tl_record.proofs.NextLemmas.{finds_line, finds_full, left_refused, left_accepted, longer, longer_is}
use Rattle.tl_record.proofs.FrontLemmas.{accepted_front, front_fed, front_full, if_refused}
use Rattle.tl_record.proofs.reader.RecordReader.next_line.Goals as goal

pub overflow_add-len : goal.overflow_add-len
overflow_add-len g c = omega (arith, c.in-Whole.ensures.shows.0, c.judge_pending-meaning.ensures.room)

pub returns-in-Refused-clause-steps : goal.returns-in-Refused-clause-steps
returns-in-Refused-clause-steps g c =
    let reader = c.args.self.now in
    let bytes = c.fetch_line.new.buffer in
    let shows = c.in-Whole.ensures.shows in
    let meaning = c.judge_pending-meaning.result in
    let place = c.judge_pending-meaning.new.place in
    let judged = c.judge_pending-meaning.ensures.judged in
    record {
      finds = finds_line reader.layout (reader.lines + 1) _ (g.R.Source.remaining c.fetch_line.new.source) bytes bytes c.in-Whole.len (judgement_with meaning place)
          c.in-Whole.ensures.bytes shows.0 shows.1 shows.2 judged (left_refused meaning c.in-Refused.field-0 place (drop (c.in-Whole.len + 1) bytes) bytes c.in-Refused.is);
      judges = (take c.in-Whole.len bytes, judged);
      pending = tt;
      front = if_refused (judgement_with meaning place) _ (front_fed (g.R.Source.remaining c.fetch_line.new.source) bytes c.in-Whole.len shows.0 shows.1 shows.2);
      failures = c.in-Whole.ensures.failures;
      progress = record { layout = refl; lines = refl; skipped = refl; standing = refl };
    }

pub returns-in-Refused-clause-kept : goal.returns-in-Refused-clause-kept
returns-in-Refused-clause-kept g c = c.judge_pending-meaning.ensures.kept

pub returns-in-Refused-clause-same_reference : goal.returns-in-Refused-clause-same_reference
returns-in-Refused-clause-same_reference g c = c.in-Whole.ensures.same_reference

pub returns-in_default : goal.returns-in_default
returns-in_default g c =
    let reader = c.args.self.now in
    let bytes = c.fetch_line.new.buffer in
    let shows = c.in-Whole.ensures.shows in
    let meaning = c.judge_pending-meaning.result in
    let place = c.judge_pending-meaning.new.place in
    let judged = c.judge_pending-meaning.ensures.judged in
    record {
      steps = record {
        finds = finds_line reader.layout (reader.lines + 1) _ (g.R.Source.remaining c.fetch_line.new.source) bytes c.consume.new.self c.in-Whole.len (judgement_with meaning place)
            c.in-Whole.ensures.bytes shows.0 shows.1 shows.2 judged (left_accepted meaning place (drop (c.in-Whole.len + 1) bytes) bytes c.consume.new.self c.in_default.not-Refused c.consume.ensures);
        judges = (take c.in-Whole.len bytes, judged);
        pending = tt;
        front = accepted_front meaning place _ c.in_default.not-Refused;
        failures = c.in-Whole.ensures.failures;
        progress = record { layout = refl; lines = refl; skipped = refl; standing = refl };
      };
      kept = c.judge_pending-meaning.ensures.kept;
      same_reference = c.in-Whole.ensures.same_reference;
    }

pub returns-in-Full-clause-steps : goal.returns-in-Full-clause-steps
returns-in-Full-clause-steps g c =
    let reader = c.args.self.now in
    let shows = c.in-Full.ensures.shows in
    let cause = c.long_line_cause.ensures reader.layout in
    record {
      finds = finds_full reader.layout (reader.lines + 1) _ (g.R.Source.remaining c.fetch_line.new.source) c.fetch_line.new.buffer c.long_line_cause.result
          c.in-Full.ensures.bytes shows.0 (omega (arith, shows.1)) (λ line long. cause line (omega (arith, long, shows.1)));
      judges = (longer 1024, sym (cause (longer 1024) (longer_is 1024)));
      pending = tt;
      front = front_full (g.R.Source.remaining c.fetch_line.new.source) c.fetch_line.new.buffer (omega (arith, shows.1));
      failures = c.in-Full.ensures.failures;
      progress = record { layout = refl; lines = refl; skipped = refl; standing = refl };
    }

pub returns-in-Rest-clause-kept : goal.returns-in-Rest-clause-kept
returns-in-Rest-clause-kept g c = c.judge_last.ensures.kept

pub returns-in-Full-clause-kept : goal.returns-in-Full-clause-kept
returns-in-Full-clause-kept g c = refl

pub returns-in-Failed-clause-kept : goal.returns-in-Failed-clause-kept
returns-in-Failed-clause-kept g c = refl

pub returns-in-Rest-clause-same_reference : goal.returns-in-Rest-clause-same_reference
returns-in-Rest-clause-same_reference g c = c.in-Rest.ensures.same_reference

pub returns-in-Full-clause-same_reference : goal.returns-in-Full-clause-same_reference
returns-in-Full-clause-same_reference g c = c.in-Full.ensures.same_reference

pub returns-in-Failed-clause-same_reference : goal.returns-in-Failed-clause-same_reference
returns-in-Failed-clause-same_reference g c = c.in-Failed.ensures.same_reference
