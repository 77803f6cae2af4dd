use Rattle.tl_map_rules.proofs.ListingLemmas.OneListLemmas.{one_list}
use Rattle.tl_map_rules.proofs.listing.laws.records_have_one_list.Goals as goal

pub returns : goal.returns
returns c = one_list
