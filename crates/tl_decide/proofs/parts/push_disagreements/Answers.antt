use Rattle.std.proofs.lemmas.Result.{err_from_is_err_and}
use Rattle.tl_decide.proofs.parts.push_disagreements.Goals as goal

pub returns-in_err-sides : goal.returns-in_err-sides
returns-in_err-sides c = let p = err_from_is_err_and c.from_residual.result c.from_residual.ensures.1 in rw p.1 tt

pub returns-in_err-push_sides : goal.returns-in_err-push_sides
returns-in_err-push_sides c = let p = err_from_is_err_and c.from_residual-in_err-push_sides.result c.from_residual-in_err-push_sides.ensures.1 in rw p.1 tt

pub returns-in_err-push_all_cells : goal.returns-in_err-push_all_cells
returns-in_err-push_all_cells c = let p = err_from_is_err_and c.from_residual-in_err-push_all_cells.result c.from_residual-in_err-push_all_cells.ensures.1 in rw p.1 tt
