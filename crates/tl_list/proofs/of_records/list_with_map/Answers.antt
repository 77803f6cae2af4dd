use Rattle.tl_list.proofs.Assembling.{found_refused, kept_told, left_text, refused_told, told_of_some}
use Rattle.tl_record.specs.Layout.{layout_with}
use Rattle.tl_list.proofs.NotedLemmas.{noted_alone, noted_of}
use Rattle.tl_list.proofs.of_records.list_with_map.Goals as goal

pub returns-in_ok-listed-in-Some-clause-found : goal.returns-in_ok-listed-in-Some-clause-found
returns-in_ok-listed-in-Some-clause-found g c =
    let known = g.R.Source.remaining c.args.records.now in
    let read = c.in_ok-refused.ensures.read in
    let kept = rw (c.in-Some.is, ← c.skipped.ensures) at read in
    let lists = c.in_ok-listed-in-Some.ensures.listed in
    let came = left_text c.args.options known _ c.with-reader.ensures.left in
    c.found_in.ensures.found c.args.options c.args.skips known (record {
      all = refused_told c.args.options c.args.skips known _ c.in_ok-refused.field-0.refused.items c.with-reader.ensures.refusals kept.1.all;
      none = kept.1.none;
      told = kept_told c.args.options c.args.skips known _ _ c.in-Some.kept c.in_ok-listed-in-Some.listed came kept.0 lists;
      of_some = told_of_some c.args.options c.args.skips known _ _ c.in-Some.kept c.in_ok-listed-in-Some.listed kept.0 lists;
    })

pub returns-in-None-clause-found : goal.returns-in-None-clause-found
returns-in-None-clause-found g c =
    let read = c.in_ok-refused.ensures.read in
    found_refused c.args.options c.args.skips (g.R.Source.remaining c.args.records.now) c.in_ok-refused.field-0.noted _ c.in_ok-refused.field-0.refused c.with-reader.ensures.refusals (rw c.in-None.is at read)

pub returns-in_ok-listed-in-Some-clause-noted : goal.returns-in_ok-listed-in-Some-clause-noted
returns-in_ok-listed-in-Some-clause-noted g c =
    let known = g.R.Source.remaining c.args.records.now in
    let read = c.in_ok-refused.ensures.read in
    let records = c.in_ok-refused.ensures.records in
    let kept = rw (c.in-Some.is, ← c.skipped.ensures) at read in
    let some = told_of_some c.args.options c.args.skips known _ _ c.in-Some.kept c.in_ok-listed-in-Some.listed kept.0 c.in_ok-listed-in-Some.ensures.listed in
    noted_of (layout_with c.args.options) c.args.notes known _ _ c.in_ok-refused.field-0.refused c.in_ok-refused.field-0.noted c.found_in.result
    c.with-reader.ensures.ahead c.with-reader.ensures.left c.in_ok-refused.ensures.fronts (rw c.in-Some.is at records) c.found_in.ensures.noted (c.found_in.ensures.refused (c.args.options.faces, some))

pub returns-in-None-clause-noted : goal.returns-in-None-clause-noted
returns-in-None-clause-noted g c =
    noted_alone (layout_with c.args.options) c.args.notes (g.R.Source.remaining c.args.records.now) _ c.in_ok-refused.field-0.refused c.in_ok-refused.field-0.noted
    c.with-reader.ensures.ahead c.in_ok-refused.ensures.fronts
