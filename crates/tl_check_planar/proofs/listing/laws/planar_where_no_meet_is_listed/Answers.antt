use Rattle.std.proofs.Common.{subst}
use Rattle.tl_check_planar.specs.Listing.Meets.{AreAllMeets}
use Rattle.tl_check_planar.proofs.ListingLemmas.Planar.{planar_without, none_where_planar}
use Rattle.tl_check_planar.proofs.listing.laws.planar_where_no_meet_is_listed.Goals as goal

pub returns : goal.returns
returns c = λ chains meets all. (none_where_planar chains meets all, λ none. planar_without chains (subst (AreAllMeets chains) none all))
