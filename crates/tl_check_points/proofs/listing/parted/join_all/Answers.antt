use Rattle.std.proofs.lemmas.Result.{err_from_is_err_and}
use Rattle.tl_check_points.proofs.Known.{none_known}
use Rattle.tl_check_points.proofs.listing.parted.join_all.Goals as goal

pub loop-place-init : goal.loop-place-init
loop-place-init g c = record {
  long = c.in-Ok.ensures.long;
  known = none_known c.args.map.now.chains c.args.sites.now c.in-Ok.counts c.in-Ok.ensures.none;
}

pub returns-in_err-room : goal.returns-in_err-room
returns-in_err-room g c = let p = err_from_is_err_and c.from_residual.result c.from_residual.ensures.1 in rw p.1 (record { long = tt; counts = tt })

pub returns-in_err-join_one : goal.returns-in_err-join_one
returns-in_err-join_one g c = let p = err_from_is_err_and c.from_residual-in_err-join_one.result c.from_residual-in_err-join_one.ensures.1 in rw p.1 (record { long = tt; counts = tt })
