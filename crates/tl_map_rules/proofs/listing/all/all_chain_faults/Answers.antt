use Rattle.std.proofs.Common.{arith}
use Rattle.std.proofs.lemmas.Result.{err_from_is_err_and}
use Rattle.tl_map_rules.proofs.ListingLemmas.PartLemmas.{all_of_chains, counts_told}
use Rattle.tl_map_rules.proofs.listing.all.all_chain_faults.Goals as goal

pub returns : goal.returns
returns c = λ rs chains.
    let listed = c.in_ok-tlids.ensures.told rs chains in
    let told = counts_told rs c.args.chains.items c.args.shapes.items c.len-count.result c.in_ok-tlids.segments _ chains (omega (arith, c.len-count.ensures, c.args.chains.ok.0)) listed.segments_told in
    all_of_chains rs c.len-count.result c.in_ok-tlids.segments _ _ _ told c.in_ok-push_too_many_of_chains.ensures c.order_faults.ensures

pub returns-in_err-tlids : goal.returns-in_err-tlids
returns-in_err-tlids c = λ rs chains. let p = err_from_is_err_and c.from_residual.result c.from_residual.ensures.1 in rw p.1 tt

pub returns-in_err-push_too_many_of_chains : goal.returns-in_err-push_too_many_of_chains
returns-in_err-push_too_many_of_chains c = λ rs chains. let p = err_from_is_err_and c.from_residual-in_err-push_too_many_of_chains.result c.from_residual-in_err-push_too_many_of_chains.ensures.1 in rw p.1 tt
