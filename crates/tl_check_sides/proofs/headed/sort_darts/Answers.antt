use Rattle.std.proofs.lemmas.Result.{err_from_is_err_and}
use Rattle.tl_check_sides.proofs.headed.sort_darts.Goals as goal

pub returns : goal.returns
returns c = record {
  numbered = c.in_ok-darts.darts.items;
  headed = c.in_ok-darts.ensures;
  moved = c.sort_about.ensures.same;
  sorted = c.in_ok-sort_about.ensures.sorted;
}

pub returns-in_err-darts : goal.returns-in_err-darts
returns-in_err-darts c = let p = err_from_is_err_and c.from_residual.result c.from_residual.ensures.1 in rw p.1 tt

pub returns-in_err-sort_about : goal.returns-in_err-sort_about
returns-in_err-sort_about c = let p = err_from_is_err_and c.from_residual-in_err-sort_about.result c.from_residual-in_err-sort_about.ensures.1 in rw p.1 tt
