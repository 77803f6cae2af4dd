use Rattle.std.proofs.Common.{◌≡◌, rules}
use Rattle.std.proofs.lemmas.Fn.{always_returns_same}
use Rattle.std.proofs.lemmas.List.Sorted.{IsPermutation-trans}
use Rattle.tl_map_rules.proofs.ListingLemmas.RunLemmas.{numbers, in_order}
use Rattle.tl_map_rules.proofs.listing.runs.sort_shapes.Goals as goal

pub returns-clause-ordered : goal.returns-clause-ordered
returns-clause-ordered c = in_order _ (c.sort_unstable_by_key.ensures.sorted numbers (always_returns_same _ (λ a r. r ≡ numbers a.0.now) _ (λ a r q k. search rules)))

pub returns-clause-moved : goal.returns-clause-moved
returns-clause-moved c = IsPermutation-trans _ _ _ c.in_ok-presort_by_rank.ensures c.sort_unstable_by_key.ensures.permutation
