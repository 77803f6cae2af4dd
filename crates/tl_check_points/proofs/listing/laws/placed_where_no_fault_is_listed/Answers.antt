use Rattle.tl_check_points.proofs.ListingLemmas.Placed.{placed_where_none}
use Rattle.tl_check_points.proofs.listing.laws.placed_where_no_fault_is_listed.Goals as goal

pub returns : goal.returns
returns c = placed_where_none
