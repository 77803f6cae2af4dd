use Rattle.std.proofs.Common.{ap, ◌∙◌, refl, ◌+◌}
use Rattle.tl_record.specs.Meaning.{judgement_with}
use Rattle.tl_record.proofs.ReadOn.{passes_on, answers_line, answers_last, answers_end, answers_failed, line_keeps, passed_keeps, last_keeps, unwrapped_with}
use Rattle.tl_record.proofs.LeavingLemmas.{left_on, leaves_line, leaves_last, leaves_end, leaves_failed}
use Rattle.tl_record.proofs.reader.RecordReader.read_on.Goals as goal

pub returns-in-Some-clause-moves : goal.returns-in-Some-clause-moves
returns-in-Some-clause-moves g c =
    let record_now = c.next_line.new.place in
    answers_line g.R.Source.remaining g.R.Source.failure_count c.args.self.now c.lines.self c.next_line.new.self c.count_line.new.self (judgement_with c.in-Line.meaning record_now) _ c.lines.invariant.passes c.in-Line.ensures.steps (c.in-Some.ensures record_now)

pub returns-in-Some-clause-leaves : goal.returns-in-Some-clause-leaves
returns-in-Some-clause-leaves g c =
    let record_now = c.next_line.new.place in
    leaves_line g.R.Source.remaining g.R.Source.failure_count c.args.self.now c.lines.self c.next_line.new.self c.count_line.new.self (judgement_with c.in-Line.meaning record_now) _
    c.lines.invariant.passes c.lines.invariant.left c.in-Line.ensures.steps (c.in-Some.ensures record_now)

pub returns-in-Some-clause-kept : goal.returns-in-Some-clause-kept
returns-in-Some-clause-kept g c =
    line_keeps c.in-Line.meaning c.in-Some.answer (c.next_line.new.self.lines + 1) c.args.place.now c.lines.place c.next_line.new.place c.lines.invariant.kept c.in-Line.ensures.kept (c.in-Some.ensures c.next_line.new.place).is

pub lines-preserved : goal.lines-preserved
lines-preserved g c =
    let record_now = c.next_line.new.place in
    let counted = c.in_default.ensures record_now in
    record {
      passes = passes_on g.R.Source.remaining g.R.Source.failure_count c.args.self.now c.lines.self c.next_line.new.self c.count_line.new.self (judgement_with c.in-Line.meaning record_now) c.lines.invariant.passes c.in-Line.ensures.steps counted;
      left = left_on g.R.Source.remaining g.R.Source.failure_count c.args.self.now c.lines.self c.next_line.new.self c.count_line.new.self (judgement_with c.in-Line.meaning record_now) c.lines.invariant.left c.in-Line.ensures.steps counted;
      same = ap g.R.Source.reference counted.source ∙ c.in-Line.ensures.same_reference ∙ c.lines.invariant.same;
      kept = passed_keeps c.in-Line.meaning (c.next_line.new.self.lines + 1) c.lines.place record_now c.in-Line.ensures.kept counted.is ∙ c.lines.invariant.kept;
    }

pub returns-in-Last-clause-moves : goal.returns-in-Last-clause-moves
returns-in-Last-clause-moves g c =
    let record_now = c.next_line.new.place in
    let counted = c.count_line-in-Last.ensures record_now in
    let answered = answers_last g.R.Source.remaining g.R.Source.failure_count c.args.self.now c.lines.self c.next_line.new.self c.count_line-in-Last.new.self (judgement_with c.in-Last.meaning record_now) _
    c.lines.invariant.passes c.in-Last.ensures.steps record { is = counted.is; lines = counted.lines; skipped = counted.skipped; judged = counted.judged; standing = counted.standing; layout = counted.layout; source = counted.source; pending = counted.pending } in
    rw c.unwrap_or.ensures (rw (unwrapped_with c.count_line-in-Last.result record_now) at answered)

pub returns-in-Last-clause-leaves : goal.returns-in-Last-clause-leaves
returns-in-Last-clause-leaves g c =
    let record_now = c.next_line.new.place in
    let counted = c.count_line-in-Last.ensures record_now in
    let answered = leaves_last g.R.Source.remaining g.R.Source.failure_count c.args.self.now c.lines.self c.next_line.new.self c.count_line-in-Last.new.self (judgement_with c.in-Last.meaning record_now) _
    c.lines.invariant.passes c.lines.invariant.left c.in-Last.ensures.steps record { is = counted.is; lines = counted.lines; skipped = counted.skipped; judged = counted.judged; standing = counted.standing; layout = counted.layout; source = counted.source; pending = counted.pending } in
    rw c.unwrap_or.ensures (rw (unwrapped_with c.count_line-in-Last.result record_now) at answered)

pub returns-in-Last-clause-kept : goal.returns-in-Last-clause-kept
returns-in-Last-clause-kept g c =
    let record_now = c.next_line.new.place in
    let counted = c.count_line-in-Last.ensures record_now in
    rw c.unwrap_or.ensures (last_keeps c.in-Last.meaning c.count_line-in-Last.result (c.next_line.new.self.lines + 1) c.args.place.now c.lines.place record_now c.lines.invariant.kept c.in-Last.ensures.kept counted.is)

pub returns-in-End-clause-moves : goal.returns-in-End-clause-moves
returns-in-End-clause-moves g c =
    answers_end g.R.Source.remaining g.R.Source.failure_count c.args.self.now c.lines.self c.next_line.new.self _ c.lines.invariant.passes c.in-End.ensures.steps refl refl refl refl

pub returns-in-End-clause-leaves : goal.returns-in-End-clause-leaves
returns-in-End-clause-leaves g c = leaves_end g.R.Source.remaining g.R.Source.failure_count c.args.self.now c.lines.self c.next_line.new.self _ c.lines.invariant.left c.in-End.ensures.steps refl refl refl

pub returns-in-Failed-clause-leaves : goal.returns-in-Failed-clause-leaves
returns-in-Failed-clause-leaves g c = leaves_failed g.R.Source.remaining g.R.Source.failure_count c.args.self.now c.lines.self c.next_line.new.self _ c.lines.invariant.left c.in-Failed.ensures.steps refl

pub returns-in-Failed-clause-moves : goal.returns-in-Failed-clause-moves
returns-in-Failed-clause-moves g c =
    answers_failed g.R.Source.remaining g.R.Source.failure_count c.args.self.now c.lines.self c.next_line.new.self _ c.lines.invariant.passes c.in-Failed.ensures.steps refl record { layout = refl; lines = refl; skipped = refl; source = refl; pending = refl }

pub returns-in-Some-clause-same_reference : goal.returns-in-Some-clause-same_reference
returns-in-Some-clause-same_reference g c = ap g.R.Source.reference (c.in-Some.ensures c.next_line.new.place).source ∙ c.in-Line.ensures.same_reference ∙ c.lines.invariant.same

pub returns-in-Last-clause-same_reference : goal.returns-in-Last-clause-same_reference
returns-in-Last-clause-same_reference g c = ap g.R.Source.reference (c.count_line-in-Last.ensures c.next_line.new.place).source ∙ c.in-Last.ensures.same_reference ∙ c.lines.invariant.same

pub returns-in-End-clause-kept : goal.returns-in-End-clause-kept
returns-in-End-clause-kept g c = c.in-End.ensures.kept ∙ c.lines.invariant.kept

pub returns-in-End-clause-same_reference : goal.returns-in-End-clause-same_reference
returns-in-End-clause-same_reference g c = c.in-End.ensures.same_reference ∙ c.lines.invariant.same

pub returns-in-Failed-clause-kept : goal.returns-in-Failed-clause-kept
returns-in-Failed-clause-kept g c = c.in-Failed.ensures.kept ∙ c.lines.invariant.kept

pub returns-in-Failed-clause-same_reference : goal.returns-in-Failed-clause-same_reference
returns-in-Failed-clause-same_reference g c = c.in-Failed.ensures.same_reference ∙ c.lines.invariant.same
