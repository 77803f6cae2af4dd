use Rattle.std.proofs.lemmas.Result.{err_from_is_err_and}
use Rattle.tl_map_rules.proofs.ListingLemmas.PartLemmas.{all_told, told_without_chains}
use Rattle.tl_map_rules.proofs.listing.all.faults_behind_chains.Goals as goal

pub returns : goal.returns
returns c = λ rs free are areas.
    all_told rs _ _ (c.in_ok-push_behind_chains.ensures rs are areas (rw c.new-faults.ensures.items (told_without_chains rs free))) c.order_faults.ensures

pub returns-in_err-push_behind_chains : goal.returns-in_err-push_behind_chains
returns-in_err-push_behind_chains c = λ rs free are areas. let p = err_from_is_err_and c.from_residual.result c.from_residual.ensures.1 in rw p.1 tt
