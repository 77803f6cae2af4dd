use Rattle.std.proofs.lemmas.Result.{err_from_is_err_and}
use Rattle.tigertopo_faults.proofs.records.lines.RecordLines.of.Goals as goal

pub returns-in_err-first : goal.returns-in_err-first
returns-in_err-first c = let p = err_from_is_err_and c.from_residual.result c.from_residual.ensures.1 in rw p.1 tt

pub returns-in_err-second : goal.returns-in_err-second
returns-in_err-second c = let p = err_from_is_err_and c.from_residual-in_err-second.result c.from_residual-in_err-second.ensures.1 in rw p.1 tt
