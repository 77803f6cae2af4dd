use Rattle.std.proofs.Common.{ltb}
use Rattle.std.proofs.lemmas.Result.{on_ok_weaker}
use Rattle.tl_map_rules.specs.declared.fault.Limited.TheVariants.{Chains, Segments}
use Rattle.tl_map_rules.specs.Listing.Keeping.Told.{Tells}
use Rattle.tl_map_rules.specs.Listing.Keeping.Limits.{IsMore}
use Rattle.tl_map_rules.proofs.ListingLemmas.LimitLemmas.{both_told}
use Rattle.tl_map_rules.proofs.listing.limits.push_too_many_of_chains.Goals as goal

pub returns : goal.returns
returns c =
    let a = ltb 1048576 c.args.chains in
    let b = ltb 16777216 c.args.segments in
    on_ok_weaker c.push_if-2.result (λ (tells : Tells (IsMore b Segments) c.push_if.new.faults.items c.push_if-2.new.faults.items).
    both_told (IsMore a Chains) (IsMore b Segments) c.args.faults.now.items c.push_if.new.faults.items c.push_if-2.new.faults.items c.in_ok-push_if.ensures tells) c.push_if-2.ensures
