use Rattle.std.proofs.Common.{refl}
use Rattle.std.proofs.lemmas.Result.{on_ok_weaker}
use Rattle.tl_check_points.specs.Listing.Hidden.{IsMarked}
use Rattle.tl_decide.specs.Keeping.OfMap.{AddsPoints}
use Rattle.tl_decide.proofs.OfMap.{hidden_points, itself}
use Rattle.tl_decide.proofs.parts.push_untouched.Goals as goal

pub returns-in-Some : goal.returns-in-Some
returns-in-Some c =
    on_ok_weaker c.push_swept.result
    (λ (adds : AddsPoints (IsMarked c.deref-in-Some.result.now) c.in-Some.hidden c.args.faults.now.items c.push_swept.new.faults.items).
    hidden_points c.in_ok-marks.marks.items c.deref.result.now c.deref-in-Some.result.now c.args.touched.now c.args.map.now c.in-Some.hidden c.args.faults.now.items
    c.push_swept.new.faults.items c.deref.ensures.value c.deref-in-Some.ensures.value c.in_ok-marks.ensures (rw c.in-Some.is at c.in-Ok.ensures) c.has_proper_chains.ensures adds)
    c.push_swept.ensures

pub returns : goal.returns
returns c =
    on_ok_weaker c.push_swept-in-None.result
    (λ (adds : AddsPoints (IsMarked c.deref-in-None.result.now) c.args.map.now c.args.faults.now.items c.push_swept-in-None.new.faults.items).
    hidden_points c.in_ok-marks.marks.items c.in_ok-marks.marks.items c.deref-in-None.result.now c.args.touched.now c.args.map.now c.args.map.now c.args.faults.now.items
    c.push_swept-in-None.new.faults.items refl c.deref-in-None.ensures.value c.in_ok-marks.ensures (itself (IsMarked c.in_ok-marks.marks.items) c.args.map.now)
    c.has_proper_chains.ensures adds)
    c.push_swept-in-None.ensures
