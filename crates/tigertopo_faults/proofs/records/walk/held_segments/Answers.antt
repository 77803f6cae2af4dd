use Rattle.std.proofs.Common.{[], ◌++◌, length, min, ◌∙◌, append-nil, refl}
use Rattle.std.proofs.lemmas.Result.{err_from_is_err_and}
use Rattle.tigertopo_faults.specs.Records.Ends.{held_in, pairs_from, end_in}
use Rattle.tigertopo_faults.proofs.WalkLemmas.{found_at_end}
use Rattle.tigertopo_faults.proofs.records.walk.held_segments.Goals as goal

pub returns : goal.returns
returns c =
    let lines = c.args.lines.now in
    let telling = c.args.telling in
    let pairs = pairs_from telling lines (min (length lines) 999) 1 in
    let ends = held_in end_in c.told-chain.result in
    found_at_end c.pass_end.new.self ∙ c.in_ok-pass_end.ensures [] ∙ c.in_ok-pass_pairs.ensures (ends ++ [])
    ∙ c.in_ok-pass_start.ensures (pairs ++ (ends ++ []))
    ∙ rw (c.new.ensures.items, append-nil ends, c.told-chain.ensures) refl

pub returns-in_err-pass_start : goal.returns-in_err-pass_start
returns-in_err-pass_start c = let p = err_from_is_err_and c.from_residual.result c.from_residual.ensures.1 in rw p.1 tt

pub returns-in_err-pass_pairs : goal.returns-in_err-pass_pairs
returns-in_err-pass_pairs c = let p = err_from_is_err_and c.from_residual-in_err-pass_pairs.result c.from_residual-in_err-pass_pairs.ensures.1 in rw p.1 tt

pub returns-in_err-pass_end : goal.returns-in_err-pass_end
returns-in_err-pass_end c = let p = err_from_is_err_and c.from_residual-in_err-pass_end.result c.from_residual-in_err-pass_end.ensures.1 in rw p.1 tt
