use Rattle.std.proofs.lemmas.Result.{err_from_is_err_and}
use Rattle.tl_decide.proofs.parts.push_all_cells.Goals as goal

pub returns-in_err-cells : goal.returns-in_err-cells
returns-in_err-cells c = let p = err_from_is_err_and c.from_residual.result c.from_residual.ensures.1 in rw p.1 tt
