use Rattle.tl_record.specs.Layout.{layout_with}
use Rattle.tl_record.specs.Refusals.{refusals_of}
use Rattle.tl_map_rules.proofs.ListingLemmas.RefusalsLemmas.ListLemmas.{lists_text}
use Rattle.tl_map_rules.proofs.listing.refusals.list.refused_lines.Goals as goal

pub returns-clause-refusals : goal.returns-clause-refusals
returns-clause-refusals g c =
    let listed = c.list_refusals.ensures.refusals in
    lists_text (refusals_of (layout_with c.args.options)) (g.R.Source.remaining c.args.records.now) _ _ c.list_refusals.result c.with-reader.ensures.refusals (rw c.new.ensures.items at listed)
