use Rattle.std.proofs.Common.{string_bytes}
use Rattle.tigertopo_faults.specs.Hint.Advice.{asking}
use Rattle.tigertopo_faults.proofs.HintLemmas.LineLemmas.{counted_in, failed_ahead, passes_shown, told_of_line}
use Rattle.tigertopo_faults.proofs.hint.refused.RefusedLineReading.read.Goals as goal

pub returns-in_ok-with_printed-in-Ok-Line-clause-answered : goal.returns-in_ok-with_printed-in-Ok-Line-clause-answered
returns-in_ok-with_printed-in-Ok-Line-clause-answered g c =
    let refused = c.args.self.now in
    let known = g.S.Source.remaining c.args.single.now in
    let found = c.in-Ok-Line.ensures.found known (passes_shown known _ c.new-buffer.result c.first_form.new.buffer c.new-buffer.ensures c.in-Ok.ensures.kept) in
    told_of_line (asking refused.by) (string_bytes refused.name.now) refused.number refused.cause known
    c.new-buffer.result c.find_ahead.new.buffer c.bytes.result.now c.in-Ok-Line.len c.in-Ok-Line.field-0-1 c.in-Ok.form _
    c.new-buffer.ensures c.bytes.ensures.value c.in-Ok.ensures.form (rw c.in-Ok-Line.field-0-is at found) c.in_ok-with_printed-in-Ok-Line.ensures.bytes

pub returns-in-Ok-Missing-clause-answered : goal.returns-in-Ok-Missing-clause-answered
returns-in-Ok-Missing-clause-answered g c =
    let known = g.S.Source.remaining c.args.single.now in
    let counted = c.in-Ok-Missing.ensures.counted known (passes_shown known _ c.new-buffer.result c.first_form.new.buffer c.new-buffer.ensures c.in-Ok.ensures.kept) in
    (c.in-Ok-Missing.ensures.before, counted_in c.find_ahead.new.passed known (rw c.in-Ok-Missing.field-0-is at counted))

pub returns-in-Err-find_ahead-clause-failures : goal.returns-in-Err-find_ahead-clause-failures
returns-in-Err-find_ahead-clause-failures g c =
    let known = g.S.Source.remaining c.args.single.now in
    failed_ahead known _ c.in-Err-find_ahead.field-0 _ _ _ c.in-Err-find_ahead.ensures.failures
    (c.in-Err-find_ahead.ensures.found known (passes_shown known _ c.new-buffer.result c.first_form.new.buffer c.new-buffer.ensures c.in-Ok.ensures.kept))
