use Rattle.std.proofs.Common.{◌<◌, arith, length, min}
use Rattle.std.proofs.lemmas.Result.{err_from_is_err_and}
use Rattle.tigertopo_faults.specs.Records.Ends.{pairs_from}
use Rattle.tigertopo_faults.proofs.WalkLemmas.{goes_number}
use Rattle.tigertopo_faults.proofs.records.walk.Walk.pass_pairs.Goals as goal

pub loop-number-preserved : goal.loop-number-preserved
loop-number-preserved c =
    let lines = c.args.lines.now in
    let telling = c.args.telling in
    let count = min (length lines) 999 in
    let below = c.loop-number-test.true in
    let end = c.min-number-end.ensures in
    let within : c.loop-number.number < count = omega (arith, below, end) in
    goes_number telling lines count c.loop-number.number c.told.result (pairs_from telling lines count 1) c.args.self.now c.loop-number.self c.pass_pairs_in.new.self within c.told.ensures
    c.loop-number.invariant c.in_ok-pass_pairs_in.ensures

pub returns-in_err-pass_pairs_in : goal.returns-in_err-pass_pairs_in
returns-in_err-pass_pairs_in c = let p = err_from_is_err_and c.from_residual.result c.from_residual.ensures.1 in rw p.1 tt
