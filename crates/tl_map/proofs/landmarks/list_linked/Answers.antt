use Rattle.std.proofs.lemmas.Result.{err_from_is_err_and}
use Rattle.tl_map.proofs.landmarks.list_linked.Goals as goal

pub append_rows-requires-clause-few : goal.append_rows-requires-clause-few
append_rows-requires-clause-few c = c.requires.few

pub append_rows-requires-clause-rising : goal.append_rows-requires-clause-rising
append_rows-requires-clause-rising c = c.requires.rising

pub append_rows-requires-clause-none : goal.append_rows-requires-clause-none
append_rows-requires-clause-none c = c.in_ok-rows.ensures.items

pub returns : goal.returns
returns c = c.in_ok-append_rows.ensures

pub returns-in_err-marks : goal.returns-in_err-marks
returns-in_err-marks c =
    let p = err_from_is_err_and c.from_residual.result c.from_residual.ensures.1 in
    rw p.1 tt

pub returns-in_err-rows : goal.returns-in_err-rows
returns-in_err-rows c =
    let p = err_from_is_err_and c.from_residual-in_err-rows.result c.from_residual-in_err-rows.ensures.1 in
    rw p.1 tt

pub returns-in_err-append_rows : goal.returns-in_err-append_rows
returns-in_err-append_rows c =
    let p = err_from_is_err_and c.from_residual-in_err-append_rows.result c.from_residual-in_err-append_rows.ensures.1 in
    rw p.1 tt
