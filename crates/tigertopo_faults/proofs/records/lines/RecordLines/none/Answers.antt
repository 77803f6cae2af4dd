use Rattle.std.proofs.lemmas.Result.{err_from_is_err_and}
use Rattle.tigertopo_faults.proofs.LinesLemmas.SpeakingLemmas.{then_none}
use Rattle.tigertopo_faults.proofs.records.lines.RecordLines.none.Goals as goal

pub returns : goal.returns
returns c = then_none c.of.result c.in_ok-kept.kept c.of.ensures c.in_ok-kept.ensures.empty

pub returns-in_err-kept : goal.returns-in_err-kept
returns-in_err-kept c = let p = err_from_is_err_and c.from_residual.result c.from_residual.ensures.1 in rw p.1 tt
