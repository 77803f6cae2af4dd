use Rattle.std.proofs.lemmas.Result.{err_from_is_err_and}
use Rattle.tl_check_points.proofs.ListingLemmas.Joined.{off_where_none}
use Rattle.tl_check_points.proofs.listing.parted.join_at.Goals as goal

pub returns-clause-off : goal.returns-clause-off
returns-clause-off g c = off_where_none c.args.taken.now.chains c.args.site.point c.look_about.new.held.items c.in_ok-look_about.ensures.held

pub returns-in_err-look_about : goal.returns-in_err-look_about
returns-in_err-look_about g c = let p = err_from_is_err_and c.from_residual.result c.from_residual.ensures.1 in rw p.1 (record { off = tt; joined = tt })
