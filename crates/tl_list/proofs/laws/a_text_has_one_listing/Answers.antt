use Rattle.tl_list.proofs.Same.{alike}
use Rattle.tl_list.proofs.laws.a_text_has_one_listing.Goals as goal

pub returns : goal.returns
returns c = alike c.a_map_has_one_list_of_all_misplaced.ensures
