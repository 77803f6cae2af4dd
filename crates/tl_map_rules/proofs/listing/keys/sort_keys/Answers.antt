use Rattle.std.proofs.Common.{◌≡◌, rules}
use Rattle.std.proofs.lemmas.Fn.{always_returns_same}
use Rattle.tl_map_rules.specs.Listing.Keeping.Keys.{parts}
use Rattle.tl_map_rules.proofs.listing.keys.sort_keys.Goals as goal

pub returns-clause-ordered : goal.returns-clause-ordered
returns-clause-ordered c =
    c.sort_unstable_by_key.ensures.sorted parts (always_returns_same _ (λ a r. r ≡ parts a.0.now) _ (λ a r q k. search rules))
