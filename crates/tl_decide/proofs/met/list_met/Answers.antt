use Rattle.std.proofs.Common.{◌≡◌, length, map, refl, ◌∙◌}
use Rattle.tl_check_verdict.specs.declared.fault.MapFault.TheVariants as fault
use Rattle.tl_decide.specs.MapFaults.{AreMapFaults}
use Rattle.tl_decide.proofs.OfMap.{all_told, some_told}
use Rattle.tl_decide.proofs.met.list_met.Goals as goal

pub returns : goal.returns
returns c =
    let m = c.args.map.now in
    let meets = c.args.meets.items in
    let touched = c.args.differing.now.touched.now in
    let rest = c.in_ok-push_rest.ensures in
    let told : c.push_meets.new.faults.items ≡ map fault.Meet meets =
    c.in_ok-push_meets.ensures ∙ rw (c.new-faults.ensures.items, c.deref.ensures.value) refl in
    let all : AreMapFaults m c.push_rest.new.faults.items (length touched) =
    all_told m meets touched (length touched) _ _ _ refl c.requires.all told rest.agreement rest.points in
    (some_told m _ (length touched) all c.requires.faulty, all)
