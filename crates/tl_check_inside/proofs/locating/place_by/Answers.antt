use Rattle.std.proofs.Common.{◌∙◌}
use Rattle.std.proofs.lemmas.Result.{err_from_is_err_and}
use Rattle.tl_check_inside.proofs.Counting.{crossed_tell}
use Rattle.tl_check_inside.proofs.Placing.{if_ok}
use Rattle.tl_check_inside.proofs.locating.place_by.Goals as goal

pub returns : goal.returns
returns c =
    if_ok c.place_by_flanks.result
    (λ place told q are off. told q (crossed_tell c.args.map.now.chains q c.args.crossed.now c.deref.result.now (c.deref.ensures.value ∙ c.in_ok-list_flanks.ensures) are) off)
    c.place_by_flanks.ensures

pub returns-in_err-list_flanks : goal.returns-in_err-list_flanks
returns-in_err-list_flanks c = let p = err_from_is_err_and c.from_residual.result c.from_residual.ensures.1 in rw p.1 tt
