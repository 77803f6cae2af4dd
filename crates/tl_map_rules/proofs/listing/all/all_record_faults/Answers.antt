use Rattle.std.proofs.Common.{arith}
use Rattle.std.proofs.lemmas.Result.{err_from_is_err_and}
use Rattle.tl_map_rules.proofs.ListingLemmas.PartLemmas.{all_told, counts_told}
use Rattle.tl_map_rules.proofs.listing.all.all_record_faults.Goals as goal

pub returns : goal.returns
returns c = λ rs chains areas.
    let listed = c.in_ok-tlids.ensures.told rs chains in
    let told = c.in_ok-push_behind_chains.ensures rs (rw c.deref.ensures.value listed.are) areas (counts_told rs c.args.chains.items c.args.shapes.items c.len-count.result c.in_ok-tlids.segments _ chains (omega (arith, c.len-count.ensures, c.args.chains.ok.0)) listed.segments_told) in
    all_told rs _ _ told c.order_faults.ensures

pub push_behind_chains-requires : goal.push_behind_chains-requires
push_behind_chains-requires c = rw c.deref.ensures.value c.in_ok-tlids.ensures.ordered

pub returns-in_err-tlids : goal.returns-in_err-tlids
returns-in_err-tlids c = λ rs chains areas. let p = err_from_is_err_and c.from_residual.result c.from_residual.ensures.1 in rw p.1 tt

pub returns-in_err-push_behind_chains : goal.returns-in_err-push_behind_chains
returns-in_err-push_behind_chains c = λ rs chains areas. let p = err_from_is_err_and c.from_residual-in_err-push_behind_chains.result c.from_residual-in_err-push_behind_chains.ensures.1 in rw p.1 tt
