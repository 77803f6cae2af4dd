use Rattle.std.proofs.Common.{ltb, length, refl}
use Rattle.tl_map_rules.specs.MapOf.{polygons_in, first_landmarks}
use Rattle.std.proofs.lemmas.Result.{err_from_is_err_and, on_ok_weaker}
use Rattle.tl_map_rules.specs.declared.fault.Limited.TheVariants.{Chains, Segments, Polygons, Landmarks}
use Rattle.tl_map_rules.specs.Listing.Keeping.Told.{Tells}
use Rattle.tl_map_rules.specs.Listing.Keeping.Limits.{IsMore}
use Rattle.tl_map_rules.proofs.ListingLemmas.LimitLemmas.{Tests, tests_more, told_limits}
use Rattle.tl_map_rules.proofs.listing.limits.push_too_many.Goals as goal

pub returns : goal.returns
returns c = λ rs codes are before.
    let counts = c.args.counts in
    let chains : Tests rs (ltb 1048576 counts.chains) Chains = tests_more rs counts.chains counts.chains 1048576 Chains refl are.too_many_chains are.few_chains in
    let segments : Tests rs (ltb 16777216 counts.segments) Segments = tests_more rs counts.segments counts.segments 16777216 Segments refl are.too_many_segments are.few_segments in
    let polygons : Tests rs (ltb 1048576 counts.polygons) Polygons = tests_more rs counts.polygons (length (polygons_in rs)) 1048576 Polygons are.polygons (λ h. h) (λ h. h) in
    let landmarks : Tests rs (ltb 1048576 counts.landmarks) Landmarks = tests_more rs counts.landmarks (length (first_landmarks rs)) 1048576 Landmarks are.landmarks (λ h. h) (λ h. h) in
    on_ok_weaker c.push_if-2.result (λ (tells : Tells (IsMore (ltb 1048576 counts.landmarks) Landmarks) c.push_if.new.faults.items c.push_if-2.new.faults.items).
    told_limits rs codes (ltb 1048576 counts.chains) (ltb 16777216 counts.segments) (ltb 1048576 counts.polygons) (ltb 1048576 counts.landmarks) c.args.faults.now.items c.push_too_many_of_chains.new.faults.items c.push_if.new.faults.items c.push_if-2.new.faults.items
    chains segments polygons landmarks c.in_ok-push_too_many_of_chains.ensures c.in_ok-push_if.ensures tells before) c.push_if-2.ensures

pub returns-in_err-push_too_many_of_chains : goal.returns-in_err-push_too_many_of_chains
returns-in_err-push_too_many_of_chains c = λ rs codes are before. let p = err_from_is_err_and c.from_residual.result c.from_residual.ensures.1 in rw p.1 tt

pub returns-in_err-push_if : goal.returns-in_err-push_if
returns-in_err-push_if c = λ rs codes are before. let p = err_from_is_err_and c.from_residual-in_err-push_if.result c.from_residual-in_err-push_if.ensures.1 in rw p.1 tt
