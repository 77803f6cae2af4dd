use Rattle.std.proofs.Common.{◌≡◌, rules}
use Rattle.std.proofs.lemmas.Fn.{always_returns_same}
use Rattle.std.proofs.lemmas.List.Sorted.{IsPermutation-trans}
use Rattle.tl_map_rules.specs.declared.entry.ShapeEntry.{ShapeEntry}
use Rattle.tl_map.proofs.OrderLemmas.{AreInOrder-from_sort}
use Rattle.tl_map.proofs.sort.sort_shapes.Goals as goal

pub returns-clause-ordered : goal.returns-clause-ordered
returns-clause-ordered c =
    AreInOrder-from_sort _ (c.sort_unstable_by_key.ensures.sorted (λ (x : ShapeEntry). (x.tlid, x.rtsq)) (always_returns_same _ (λ a r. r ≡ (a.0.now.tlid, a.0.now.rtsq)) _ (λ a r q k. search rules)))

pub returns-clause-moved : goal.returns-clause-moved
returns-clause-moved c = IsPermutation-trans _ _ _ c.in_ok-presort_by_rank.ensures c.sort_unstable_by_key.ensures.permutation
