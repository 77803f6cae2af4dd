use Rattle.std.proofs.lemmas.Result.{err_from_is_err_and}
use Rattle.tl_map_rules.specs.Faults.{IsFaultOfChains}
use Rattle.tl_map.proofs.JoinedReadLemmas.{of_text, plain_records}
use Rattle.tl_map.proofs.ReadLemmas.{stops_gathered, no_fault_gathered, stops_built, chains_read}
use Rattle.tl_map.proofs.read.read_chains_with.Goals as goal

pub collect_chains-requires : goal.collect_chains-requires
collect_chains-requires g c = c.with-reader.ensures.standing

pub returns-in_err-collected-clause-chains : goal.returns-in_err-collected-clause-chains
returns-in_err-collected-clause-chains g c =
    let p = err_from_is_err_and c.from_residual.result c.from_residual.ensures.1 in
    rw p.1 tt

pub returns-in_err-collected-clause-stops : goal.returns-in_err-collected-clause-stops
returns-in_err-collected-clause-stops g c =
    let p = err_from_is_err_and c.from_residual.result c.from_residual.ensures.1 in
    rw (p.1, p.2) (stops_gathered c.args.options.complete (plain_records c.args.options) (g.R.Source.remaining c.args.records.now) _ c.in_err-collected.field-0.0 (of_text c.args.options (g.R.Source.remaining c.args.records.now) _ c.with-reader.ensures.records) c.in_err-collected.ensures.stops)

pub returns-in_err-collected-clause-of_chains : goal.returns-in_err-collected-clause-of_chains
returns-in_err-collected-clause-of_chains g c =
    let p = err_from_is_err_and c.from_residual.result c.from_residual.ensures.1 in
    rw (p.1, p.2) (no_fault_gathered IsFaultOfChains _ c.in_err-collected.field-0.0 c.in_err-collected.ensures.stops)

pub chains_or_fault-requires : goal.chains_or_fault-requires
chains_or_fault-requires g c = (c.in_ok-collected.ensures.all.records, c.in_ok-collected.ensures.all.kept)

pub returns-clause-chains : goal.returns-clause-chains
returns-clause-chains g c =
    let all = c.in_ok-collected.ensures.all in
    chains_read c.args.options.complete (plain_records c.args.options) (g.R.Source.remaining c.args.records.now) _ _ c.skipped.result all.records c.chains_or_fault.result (of_text c.args.options (g.R.Source.remaining c.args.records.now) _ c.with-reader.ensures.records) c.skipped.ensures all.known (c.chains_or_fault.ensures.built all.records all.kept)

pub returns-clause-stops : goal.returns-clause-stops
returns-clause-stops g c =
    let all = c.in_ok-collected.ensures.all in
    stops_built c.args.options.complete (plain_records c.args.options) (g.R.Source.remaining c.args.records.now) _ _ all.records _ c.chains_or_fault.result (of_text c.args.options (g.R.Source.remaining c.args.records.now) _ c.with-reader.ensures.records) all.known (c.chains_or_fault.ensures.built all.records all.kept)

pub returns-clause-of_chains : goal.returns-clause-of_chains
returns-clause-of_chains g c = c.chains_or_fault.ensures.of_chains
