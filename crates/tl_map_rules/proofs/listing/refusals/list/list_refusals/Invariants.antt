use Rattle.std.proofs.Common.{◌≡◌, ◌-◌, ◌^◌, length}
use Rattle.tl_record.specs.Reader.{source_of, standing_of, refusals_to_come}
use Rattle.tl_record.specs.Searching.{goes_on}
use Rattle.tl_map_rules.specs.Listing.Refusals.Listing.{BeginsWith, ListsSoFar}
use Rattle.tl_map_rules.proofs.ListingLemmas.RefusalsLemmas.ListLemmas.{all_behind}
use Rattle.tl_map_rules.proofs.listing.refusals.list.list_refusals.Given as goal

abbrev pub invariant-refusals : goal.invariant-refusals
invariant-refusals g l = record {
  so_far : ListsSoFar (all_behind l.fn.list.items (refusals_to_come g.R.Source.remaining l.fn.reader)) (refusals_to_come g.R.Source.remaining l.reader) l.all.items;
  front : BeginsWith l.fn.list.items l.all.items;
  failures : g.R.Source.failure_count (source_of l.reader) ≡ g.R.Source.failure_count (source_of l.fn.reader);
  same : g.R.Source.reference (source_of l.reader) ≡ g.R.Source.reference (source_of l.fn.reader);
  goes : goes_on (standing_of l.reader) ≡ goes_on (standing_of l.fn.reader);
}

abbrev pub decreases-refusals : goal.decreases-refusals
decreases-refusals g l = 2 ^ 64 - length l.all.items
