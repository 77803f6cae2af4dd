use Rattle.std.proofs.Common.{subst}
use Rattle.tl_check_sides.specs.Listing.Disagreements.{AreAllDisagreements}
use Rattle.tl_check_sides.proofs.ListingLemmas.Emptiness.{sides_agree, no_disagreement}
use Rattle.tl_check_sides.proofs.listing.laws.sides_agree_where_no_disagreement_is_listed.Goals as goal

pub returns : goal.returns
returns c = λ chains found all. (no_disagreement chains found all, λ none. sides_agree chains (subst (AreAllDisagreements chains) none all))
