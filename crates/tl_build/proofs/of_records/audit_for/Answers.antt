use Rattle.std.proofs.Common.{◌≡◌, false, None, Some, sym, ap, ◌∙◌}
use Rattle.std.specs.Prelude.{slice_get, option_copied}
use Rattle.tl_decide.specs.declared.asked.Depth.TheVariants.{First}
use Rattle.tl_decide.proofs.Reporting.{reported}
use Rattle.tl_build.proofs.Decided.{none_told, first_told}
use Rattle.tl_build.proofs.of_records.audit_for.Goals as goal

pub returns-in-Some : goal.returns-in-Some
returns-in-Some c =
    let faults = c.in_ok-decided.decided.faults.items in
    let at : slice_get faults 0 ≡ Some c.in-Some.fault.now = ap (λ fs. slice_get fs 0) (sym c.deref.ensures.value) ∙ sym c.first.ensures.value ∙ ap option_copied c.in-Some.is in
    first_told c.args.faces c.args.map.now faults c.in_ok-decided.ensures.faults.told c.in-Some.fault.now at

pub returns : goal.returns
returns c =
    let m = c.args.map.now in
    let decided = c.in_ok-decided.decided in
    let is = c.in_ok-decided.ensures in
    let at : slice_get decided.faults.items 0 ≡ None = ap (λ fs. slice_get fs 0) (sym c.deref.ensures.value) ∙ sym c.first.ensures.value ∙ ap option_copied c.in-None.is in
    reported (record { depth = First; faces = c.args.faces; walks = false }) m decided c.report.result is (none_told decided.faults.items at) c.report.ensures
