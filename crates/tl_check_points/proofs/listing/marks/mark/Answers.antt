use Rattle.std.proofs.lemmas.Result.{err_from_is_err_and}
use Rattle.tl_check_points.proofs.ListingLemmas.Marking.{marked_more}
use Rattle.tl_check_points.proofs.listing.marks.mark.Goals as goal

pub returns : goal.returns
returns c = marked_more c.args.marks.now.items c.make_room.new.marks.items c.args.p c.in_ok-make_room.ensures.room c.in_ok-make_room.ensures.same

pub returns-in_err-make_room : goal.returns-in_err-make_room
returns-in_err-make_room c = let p = err_from_is_err_and c.from_residual.result c.from_residual.ensures.1 in rw p.1 tt
