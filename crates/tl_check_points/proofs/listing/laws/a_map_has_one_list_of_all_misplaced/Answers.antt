use Rattle.tl_check_sides.specs.Listing.Touched.{IsTouched}
use Rattle.tl_check_points.proofs.ListingLemmas.Unique.{one_list_of_all}
use Rattle.tl_check_points.proofs.listing.laws.a_map_has_one_list_of_all_misplaced.Goals as goal

pub returns : goal.returns
returns c m found others = one_list_of_all (IsTouched m.chains) m found others
