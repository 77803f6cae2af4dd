use Rattle.std.proofs.lemmas.Result.{err_from_is_err_and}
use Rattle.tl_map.proofs.JoinedReadLemmas.{of_text, plain_records}
use Rattle.tl_map.proofs.ReadLemmas.{stops_gathered, stops_built, map_read}
use Rattle.tl_map_rules.specs.Lacking.{lacks}
use Rattle.std.proofs.Common.{◌≡◌, false, sym, subst, ◌∙◌}
use Rattle.tl_map.proofs.read.read_map_with.Goals as goal

pub collect_asked-requires : goal.collect_asked-requires
collect_asked-requires g c = c.with-reader.ensures.standing

pub returns-in_err-collected-clause-map : goal.returns-in_err-collected-clause-map
returns-in_err-collected-clause-map g c =
    let p = err_from_is_err_and c.from_residual.result c.from_residual.ensures.1 in
    rw p.1 tt

pub returns-in_err-collected-clause-stops : goal.returns-in_err-collected-clause-stops
returns-in_err-collected-clause-stops g c =
    let p = err_from_is_err_and c.from_residual.result c.from_residual.ensures.1 in
    rw (p.1, p.2) (stops_gathered c.args.options.complete (plain_records c.args.options) (g.R.Source.remaining c.args.records.now) _ c.in_err-collected.field-0.0 (of_text c.args.options (g.R.Source.remaining c.args.records.now) _ c.with-reader.ensures.records) c.in_err-collected.ensures.stops)

pub build_map-requires : goal.build_map-requires
build_map-requires g c =
    let all = c.in_ok-collected.ensures.all in
    (all.records, all.kept, all.areas)

pub returns-clause-map : goal.returns-clause-map
returns-clause-map g c =
    let all = c.in_ok-collected.ensures.all in
    map_read c.args.options.complete (plain_records c.args.options) (g.R.Source.remaining c.args.records.now) _ _ c.skipped.result all.records c.first_told.result (of_text c.args.options (g.R.Source.remaining c.args.records.now) _ c.with-reader.ensures.records) c.skipped.ensures all.known (subst (λ l. lacks l ≡ false) (c.lacking_where-lacking.ensures all.records all.kept all.areas) (sym c.is_some.ensures ∙ c.if-is_some.false)) (c.first_told.ensures all.records c.skipped.result (c.build_map.ensures all.records all.kept all.areas))

pub returns-clause-stops : goal.returns-clause-stops
returns-clause-stops g c =
    let all = c.in_ok-collected.ensures.all in
    stops_built c.args.options.complete (plain_records c.args.options) (g.R.Source.remaining c.args.records.now) _ _ all.records _ c.first_told.result (of_text c.args.options (g.R.Source.remaining c.args.records.now) _ c.with-reader.ensures.records) all.known (c.first_told.ensures all.records c.skipped.result (c.build_map.ensures all.records all.kept all.areas))

pub first_told-requires : goal.first_told-requires
first_told-requires g c =
    let all = c.in_ok-collected.ensures.all in
    (all.records, c.skipped.result, c.build_map.ensures all.records all.kept all.areas)
