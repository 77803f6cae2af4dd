use Rattle.std.proofs.Common.{map, sym, ap, ◌∙◌}
use Rattle.std.proofs.lemmas.Result.{err_from_is_err_and}
use Rattle.std.specs.Prelude.{option_copied}
use Rattle.std.proofs.lemmas.List.{map_more, take_all}
use Rattle.tl_map_rules.specs.Rows.{Row}
use Rattle.tl_check_verdict.specs.declared.rows.About.{About}
use Rattle.tigertopo_faults.specs.Lines.Places.{fault_place, place_about}
use Rattle.tigertopo_faults.proofs.lines.places.fault_places.Goals as goal

pub loop-fault-preserved : goal.loop-fault-preserved
loop-fault-preserved c =
    rw (c.in_ok-push.ensures.items, c.loop-fault.invariant, c.place_about.ensures, ap (λ (r : Row About). place_about (option_copied c.args.map) r.2) c.row.ensures, c.fault-item.is)
    (sym (map_more (fault_place (option_copied c.args.map)) c.args.faults.now c.loop-fault.fault-index c.fault-item.result c.loop-fault-test.true))

pub returns : goal.returns
returns c = c.loop-fault.invariant ∙ ap (map (fault_place (option_copied c.args.map))) (take_all c.loop-fault.fault-index c.args.faults.now c.loop-fault-test.false)

pub returns-in_err-points : goal.returns-in_err-points
returns-in_err-points c = let p = err_from_is_err_and c.from_residual.result c.from_residual.ensures.1 in rw p.1 tt

pub returns-in_err-places : goal.returns-in_err-places
returns-in_err-places c = let p = err_from_is_err_and c.from_residual-in_err-places.result c.from_residual-in_err-places.ensures.1 in rw p.1 tt

pub returns-in_err-push : goal.returns-in_err-push
returns-in_err-push c = let p = err_from_is_err_and c.from_residual-in_err-push.result c.from_residual-in_err-push.ensures.1 in rw p.1 tt
