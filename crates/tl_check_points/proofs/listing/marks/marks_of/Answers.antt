use Rattle.std.proofs.Common.{refl}
use Rattle.std.proofs.lemmas.Result.{err_from_is_err_and}
use Rattle.tl_check_points.proofs.ListingLemmas.Marking.{none_marked, marks_more, marks_all}
use Rattle.tl_check_points.proofs.listing.marks.marks_of.Goals as goal

pub loop-place-init : goal.loop-place-init
loop-place-init c = none_marked c.args.polygons.now c.new-marks.result.items c.new-marks.ensures.items

pub loop-place-preserved : goal.loop-place-preserved
loop-place-preserved c = marks_more c.args.polygons.now c.loop-place.place c.loop-place.marks.items c.mark.new.marks.items _ c.loop-place-test.true refl c.in_ok-mark.ensures c.loop-place.invariant

pub returns : goal.returns
returns c = marks_all c.args.polygons.now c.loop-place.place c.loop-place.marks.items c.loop-place-test.false c.loop-place.invariant

pub returns-in_err-mark : goal.returns-in_err-mark
returns-in_err-mark c = let p = err_from_is_err_and c.from_residual.result c.from_residual.ensures.1 in rw p.1 tt
