use Rattle.tl_map_rules.proofs.ListingLemmas.OneListLemmas.{once}
use Rattle.tl_map_rules.proofs.listing.laws.no_fault_stands_twice.Goals as goal

pub returns : goal.returns
returns c = once
