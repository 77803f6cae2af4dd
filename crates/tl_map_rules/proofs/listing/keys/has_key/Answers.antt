use Rattle.std.proofs.Common.{◌≡◌, rules}
use Rattle.std.proofs.lemmas.Fn.{always_returns_same}
use Rattle.tl_map_rules.specs.Listing.Keeping.Keys.{parts}
use Rattle.tl_map_rules.proofs.ListingLemmas.KeyLemmas.{searched_key}
use Rattle.tl_map_rules.proofs.listing.keys.has_key.Goals as goal

pub returns : goal.returns
returns c = rw c.is_ok.ensures.value (searched_key c.args.keys.now c.args.key c.binary_search_by_key.result c.requires c.binary_search_by_key.ensures.bound
    (rw c.parts_of-wanted.ensures at (c.binary_search_by_key.ensures.position parts (always_returns_same _ (λ a r. r ≡ parts a.0.now) _ (λ a r q k. search rules)))))
