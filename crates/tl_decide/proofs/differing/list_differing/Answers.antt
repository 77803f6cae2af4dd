use Rattle.std.proofs.Common.{[], Contains, subst, ◌∙◌}
use Rattle.tl_decide.specs.MapFaults.{AreMapFaults}
use Rattle.tl_decide.specs.Keeping.OfMap.{AddsPoints}
use Rattle.tl_decide.proofs.OfMap.{no_meets, all_told, some_differ}
use Rattle.tl_decide.proofs.differing.list_differing.Goals as goal

pub returns : goal.returns
returns c =
    let m = c.args.map.now in
    let touched = c.in_ok-touched.touched.items in
    let faults = c.push_untouched.new.faults.items in
    let points = subst (λ named. AddsPoints (Contains named) m c.push_disagreements.new.faults.items faults) c.deref.ensures.value c.in_ok-push_untouched.ensures in
    let all : AreMapFaults m faults c.len.result = all_told m [] touched c.len.result c.new-faults.result.items c.push_disagreements.new.faults.items faults
    (c.len.ensures ∙ c.in_ok-touched.touched.ok.0) (no_meets m.chains c.requires.planar) c.new-faults.ensures.items c.in_ok-touched.ensures points in
    (some_differ m faults c.len.result all c.requires.differ, all)
