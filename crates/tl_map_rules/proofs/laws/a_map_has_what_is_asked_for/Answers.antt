use Rattle.tl_map_rules.proofs.LackingLemmas.{complete_read}
use Rattle.tl_map_rules.proofs.laws.a_map_has_what_is_asked_for.Goals as goal

pub returns : goal.returns
returns c = complete_read
