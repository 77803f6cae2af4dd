use Rattle.std.proofs.Common.{◌∙◌, refl}
use Rattle.tl_record.proofs.SearchOn.{searches-refl, searches_on, finds_refusal, finds_end, finds_failure, finds_no_end, no_number, no_line_end}
use Rattle.tl_record.proofs.reader.RecordReader.search_on.Goals as goal

pub lines-init : goal.lines-init
lines-init g c = record { searches = searches-refl _ _ _; same = refl }

pub returns-in-Some-clause-finds : goal.returns-in-Some-clause-finds
returns-in-Some-clause-finds g c =
    let takes = rw c.in-Some.is at c.in-Line.ensures.takes in
    finds_refusal g.R.Source.remaining g.R.Source.failure_count c.args.self.now c.lines.self _ c.in-Some.cause c.lines.invariant.searches takes c.in-Line.ensures.failures
    refl refl refl

pub returns-in-Some-clause-same_reference : goal.returns-in-Some-clause-same_reference
returns-in-Some-clause-same_reference g c = c.in-Line.ensures.same_reference ∙ c.lines.invariant.same

pub lines-preserved : goal.lines-preserved
lines-preserved g c =
    let takes = rw c.in_default.is at c.in-Line.ensures.takes in
    record {
      searches = searches_on g.R.Source.remaining g.R.Source.failure_count c.args.self.now c.lines.self _ c.lines.invariant.searches takes c.in-Line.ensures.failures
          refl refl refl;
      same = c.in-Line.ensures.same_reference ∙ c.lines.invariant.same;
    }

pub returns-in-End : goal.returns-in-End
returns-in-End g c = record {
  finds = finds_end g.R.Source.remaining g.R.Source.failure_count c.args.self.now c.lines.self _ c.lines.invariant.searches c.in-End.ensures.takes c.in-End.ensures.failures refl;
  same_reference = c.in-End.ensures.same_reference ∙ c.lines.invariant.same;
}

pub returns-in-Stopped-Device : goal.returns-in-Stopped-Device
returns-in-Stopped-Device g c =
    let failures = rw c.in-Stopped-Device.field-0-is at c.in-Stopped-Device.ensures.failures in
    record {
      finds = finds_failure g.R.Source.remaining g.R.Source.failure_count c.args.self.now c.lines.self _ c.lines.invariant.searches failures refl;
      same_reference = c.in-Stopped-Device.ensures.same_reference ∙ c.lines.invariant.same;
    }

pub returns-in-Stopped-Endless : goal.returns-in-Stopped-Endless
returns-in-Stopped-Endless g c =
    let takes = rw c.in-Stopped-Endless.field-0-is at c.in-Stopped-Endless.ensures.takes in
    let failures = rw c.in-Stopped-Endless.field-0-is at c.in-Stopped-Endless.ensures.failures in
    record {
      finds = finds_no_end g.R.Source.remaining g.R.Source.failure_count c.args.self.now c.lines.self _ c.lines.invariant.searches
          (no_line_end _ _ _ _ _ _ takes) failures;
      same_reference = c.in-Stopped-Endless.ensures.same_reference ∙ c.lines.invariant.same;
    }

pub returns-then-self : goal.returns-then-self
returns-then-self g c = record {
  finds = finds_no_end g.R.Source.remaining g.R.Source.failure_count c.args.self.now c.lines.self c.lines.self c.lines.invariant.searches
      (no_number c.lines.self.judged _ _ c.if-self.true) refl;
  same_reference = c.lines.invariant.same;
}
