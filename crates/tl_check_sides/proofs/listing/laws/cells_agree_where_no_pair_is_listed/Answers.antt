use Rattle.std.proofs.Common.{subst}
use Rattle.tl_check_sides.specs.Listing.CellOdds.{AreAllCellsAtOdds}
use Rattle.tl_check_sides.proofs.ListingLemmas.Emptiness.{cells_agree, no_pair}
use Rattle.tl_check_sides.proofs.listing.laws.cells_agree_where_no_pair_is_listed.Goals as goal

pub returns : goal.returns
returns c = λ chains found all. (no_pair chains found all, λ none. cells_agree chains (subst (AreAllCellsAtOdds chains) none all))
