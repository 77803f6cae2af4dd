use Rattle.std.proofs.Common.{eqb}
use Rattle.std.proofs.lemmas.List.Filters.{dedup_is}
use Rattle.tl_check_sides.proofs.ListingLemmas.Listing.{rises, same}
use Rattle.tl_check_sides.proofs.listing.listed.sort_once.Goals as goal

pub returns-clause-rising : goal.returns-clause-rising
returns-clause-rising c = rises _ _ c.sort_unstable.ensures.sorted (dedup_is eqb _ _ c.dedup.ensures.filtered)

pub returns-clause-same : goal.returns-clause-same
returns-clause-same c = same _ _ _ c.sort_unstable.ensures.permutation (dedup_is eqb _ _ c.dedup.ensures.filtered)
