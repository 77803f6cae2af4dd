use Rattle.std.proofs.lemmas.Result.{err_from_is_err_and}
use Rattle.tl_decide.proofs.tell.push_points.Goals as goal

pub returns-in_err-append : goal.returns-in_err-append
returns-in_err-append c = let p = err_from_is_err_and c.from_residual.result c.from_residual.ensures.1 in rw p.1 tt
