use Rattle.std.proofs.Common.{arith}
use Rattle.std.proofs.lemmas.Result.{err_from_is_err_and}
use Rattle.tl_map_rules.proofs.ListingLemmas.ToldLemmas.{empty_items}
use Rattle.tl_map_rules.proofs.ListingLemmas.JoinedLemmas.{told_chains}
use Rattle.tl_map_rules.proofs.listing.tlids.push_chains.Goals as goal

pub returns : goal.returns
returns c = λ rs often shape_often are.
    let faults = c.push_shapes.new.faults in
    told_chains rs c.args.chains.now c.args.tlids.now c.args.shapes.now c.push_repeats.new.faults.items c.push_missing.new.faults.items faults.items c.is_empty.result c.requires.chains often shape_often are
    (rw c.requires.none at c.in_ok-push_repeats.ensures) c.in_ok-push_missing.ensures c.in_ok-push_shapes.ensures
    (empty_items c.is_empty.result _ faults.items c.is_empty.ensures (omega (arith, faults.ok.0)))

pub returns-in_err-push_repeats : goal.returns-in_err-push_repeats
returns-in_err-push_repeats c = λ rs often shape_often are. let p = err_from_is_err_and c.from_residual.result c.from_residual.ensures.1 in rw p.1 tt

pub returns-in_err-push_missing : goal.returns-in_err-push_missing
returns-in_err-push_missing c = λ rs often shape_often are. let p = err_from_is_err_and c.from_residual-in_err-push_missing.result c.from_residual-in_err-push_missing.ensures.1 in rw p.1 tt

pub returns-in_err-push_shapes : goal.returns-in_err-push_shapes
returns-in_err-push_shapes c = λ rs often shape_often are. let p = err_from_is_err_and c.from_residual-in_err-push_shapes.result c.from_residual-in_err-push_shapes.ensures.1 in rw p.1 tt
