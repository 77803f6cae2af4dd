use Rattle.tl_check_sides.proofs.ListingLemmas.Agreeing.{at_odds}
use Rattle.tl_check_sides.proofs.listing.laws.pairs_that_are_told_are_at_odds.Goals as goal

pub returns : goal.returns
returns c = λ chains a b id_a id_b told. at_odds chains a b id_a id_b told
