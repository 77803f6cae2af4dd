use Rattle.tl_check_points.specs.Listing.Hidden.{IsMarked}
use Rattle.tl_decide.proofs.OfMap.{same_marks, itself}
use Rattle.tl_decide.proofs.meets.list_by_search.Goals as goal

pub list_by_part-requires-clause-marks : goal.list_by_part-requires-clause-marks
list_by_part-requires-clause-marks c =
    same_marks c.in_ok-marks.marks.items c.deref-5.result.now c.in_ok-touched.touched.items c.deref-4.result.now c.deref-2.result.now c.deref-5.ensures.value c.deref-4.ensures.value
    c.deref-2.ensures.value c.in_ok-marks.ensures

pub list_by_part-requires-in-None-clause-alike : goal.list_by_part-requires-in-None-clause-alike
list_by_part-requires-in-None-clause-alike c = itself (IsMarked c.deref-5.result.now) c.args.map.now
