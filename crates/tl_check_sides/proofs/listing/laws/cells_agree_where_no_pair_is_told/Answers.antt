use Rattle.tl_check_sides.proofs.ListingLemmas.Agreeing.{agree}
use Rattle.tl_check_sides.proofs.listing.laws.cells_agree_where_no_pair_is_told.Goals as goal

pub returns : goal.returns
returns c = λ chains none. agree chains none
