use Rattle.std.proofs.Common.{◌≡◌, rules}
use Rattle.std.proofs.lemmas.Fn.{always_returns_same, dedup_same}
use Rattle.tl_map_rules.specs.declared.fault.RecordFault.{RecordFault}
use Rattle.tl_map_rules.specs.Listing.AllFaults.{fault_place}
use Rattle.tl_map_rules.proofs.ListingLemmas.OrderLemmas.{same_point, ordered}
use Rattle.tl_map_rules.proofs.listing.order.order_faults.Goals as goal

pub returns : goal.returns
returns c = ordered _ _ _ c.sort_unstable_by_key.ensures.permutation
    (c.sort_unstable_by_key.ensures.sorted fault_place (always_returns_same _ (λ a r. r ≡ fault_place a.0.now) _ (λ a r q k. search rules)))
    (dedup_same _ (λ (f g : RecordFault). same_point (fault_place f) (fault_place g)) _ (λ x y b f' x' y' k. search rules) _ _ c.dedup_by_key.ensures.filtered)
