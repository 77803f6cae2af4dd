use Rattle.tl_check_planar.proofs.ListingLemmas.Remaining.{one_of_marked}
use Rattle.tl_check_planar.proofs.listing.laws.a_meet_has_a_chain_that_is_marked.Goals as goal

pub returns : goal.returns
returns c = λ marks chains s t r planar lt meet. one_of_marked marks chains planar s t r lt meet
