use Rattle.std.proofs.Common.{◌≡◌, false, length, refl, arith}
use Rattle.std.proofs.lemmas.List.{nil_from_length}
use Rattle.std.proofs.lemmas.Result.{err_from_is_err_and}
use Rattle.tl_decide.specs.declared.asked.Depth.TheVariants.{All}
use Rattle.tl_decide.proofs.Reporting.{reported}
use Rattle.tl_list.proofs.of_map.list_map.Goals as goal

pub returns-then-is_empty : goal.returns-then-is_empty
returns-then-is_empty c =
    let m = c.args.map.now in
    let decided = c.in_ok-faults.field-0 in
    let is = c.in_ok-faults.ensures in
    let none : length decided.faults.items ≡ 0 = grind (arith, c.is_empty.ensures, c.if-is_empty.true) in
    reported (record { depth = All; faces = c.args.faces; walks = false }) m decided c.report.result is (nil_from_length decided.faults.items none) c.report.ensures

pub returns : goal.returns
returns c =
    let faults = c.in_ok-faults.field-0.faults.items in (
      (λ none. let long : length faults ≡ 0 = rw none refl in grind (arith, long, c.is_empty.ensures, c.if-is_empty.false)),
      c.in_ok-faults.ensures.faults.told,
    )

pub returns-in_err-faults : goal.returns-in_err-faults
returns-in_err-faults c = let p = err_from_is_err_and c.from_residual.result c.from_residual.ensures.1 in rw p.1 tt
