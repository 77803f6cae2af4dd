use Rattle.std.proofs.Common.{◌≡◌, rules}
use Rattle.std.proofs.lemmas.Fn.{always_returns_same}
use Rattle.std.proofs.lemmas.List.Sorted.{IsNonDecreasingBy-from_sort_by_key}
use Rattle.tl_map.specs.declared.landmarks.Link.{Link}
use Rattle.tl_map.proofs.LandmarkLemmas.{by_landmark}
use Rattle.tl_map.proofs.landmarks.sort_links.Goals as goal

pub returns : goal.returns
returns c =
    by_landmark _ _ c.in_ok-sort_by_key.ensures.permutation (IsNonDecreasingBy-from_sort_by_key (λ (x : Link). x.landmark) _ c.in_ok-sort_by_key.ensures.sorted (λ a r q k. search rules))
    (c.in_ok-sort_by_key.ensures.stable (λ (x : Link). x.landmark) (always_returns_same _ (λ a r. r ≡ a.0.now.landmark) _ (λ a r q k. search rules)))
