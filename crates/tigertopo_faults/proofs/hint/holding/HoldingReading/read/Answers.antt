use Rattle.tigertopo_faults.proofs.HintLemmas.KindLemmas.{held_told}
use Rattle.tigertopo_faults.proofs.HintLemmas.LineLemmas.{failed_ahead, passes_shown}
use Rattle.tigertopo_faults.proofs.hint.holding.HoldingReading.read.Goals as goal

pub returns-in-Ok-kinds_ahead-clause-answered : goal.returns-in-Ok-kinds_ahead-clause-answered
returns-in-Ok-kinds_ahead-clause-answered g c =
    let known = g.S.Source.remaining c.args.single.now in
    held_told known c.new-buffer.result c.in-Ok.form c.in-Ok-kinds_ahead.kinds c.held_by.result c.new-buffer.ensures c.in-Ok.ensures.form
    (c.in-Ok-kinds_ahead.ensures.kinds known (passes_shown known _ c.new-buffer.result c.first_form.new.buffer c.new-buffer.ensures c.in-Ok.ensures.kept)) c.held_by.ensures

pub returns-in-Err-kinds_ahead-clause-failures : goal.returns-in-Err-kinds_ahead-clause-failures
returns-in-Err-kinds_ahead-clause-failures g c =
    let known = g.S.Source.remaining c.args.single.now in
    failed_ahead known _ c.in-Err-kinds_ahead.field-0 _ _ _ c.in-Err-kinds_ahead.ensures.failures
    (c.in-Err-kinds_ahead.ensures.kinds known (passes_shown known _ c.new-buffer.result c.first_form.new.buffer c.new-buffer.ensures c.in-Ok.ensures.kept))
