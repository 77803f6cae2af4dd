use Rattle.std.proofs.Common.{◌≡◌, pos, ◌+ℤ◌, subst, rules}
use Rattle.std.specs.List.Sorted.{IsPermutation}
use Rattle.std.proofs.lemmas.Fn.{always_returns_same}
use Rattle.std.proofs.lemmas.List.Sorted.{IsPermutation-map, IsPermutation-trans}
use Rattle.tl_check_planar.specs.ByHeight.Heights.{height, widest}
use Rattle.tl_check_active.specs.declared.events.End.{End}
use Rattle.tl_check_active.specs.Keeping.Ended.{events_at, events_in, AreEndsRising}
use Rattle.tl_check_active.proofs.Risen.{ends_rise, events_rise}
use Rattle.tl_check_active.proofs.events.Events.sort.Goals as goal

pub returns-in_err-presort_by_rank-clause-moved : goal.returns-in_err-presort_by_rank-clause-moved
returns-in_err-presort_by_rank-clause-moved c =
    let new = c.presort_by_rank.new.items.items in
    subst (λ old. IsPermutation old (events_in new)) c.self.view_is (IsPermutation-map events_at _ _ c.presort_by_rank.ensures)

pub returns-in_err-sort_by_key-clause-moved : goal.returns-in_err-sort_by_key-clause-moved
returns-in_err-sort_by_key-clause-moved c =
    let new = c.sort_by_key.new.self.items in
    subst (λ old. IsPermutation old (events_in new)) c.self.view_is
    (IsPermutation-map events_at _ _ (IsPermutation-trans _ _ _ c.presort_by_rank.ensures c.in_err-sort_by_key.ensures.permutation))

pub returns-in_ok-sort_by_key-clause-moved : goal.returns-in_ok-sort_by_key-clause-moved
returns-in_ok-sort_by_key-clause-moved c =
    let new = c.sort_by_key.new.self.items in
    subst (λ old. IsPermutation old (events_in new)) c.self.view_is
    (IsPermutation-map events_at _ _ (IsPermutation-trans _ _ _ c.presort_by_rank.ensures c.in_ok-sort_by_key.ensures.permutation))

pub returns-in_ok-sort_by_key-clause-rising : goal.returns-in_ok-sort_by_key-clause-rising
returns-in_ok-sort_by_key-clause-rising c =
    events_rise c.sort_by_key.new.self.items
    (ends_rise c.sort_by_key.new.self.items
    (c.in_ok-sort_by_key.ensures.sorted (λ (x : End). height widest x.point +ℤ pos 2147483647)
    (always_returns_same _ (λ a r. r ≡ height widest a.0.now.point +ℤ pos 2147483647) _ (λ a r q k. search rules))))

pub returns-else-not-are_rising-clause-moved : goal.returns-else-not-are_rising-clause-moved
returns-else-not-are_rising-clause-moved c =
    let new = c.presort_by_rank.new.items.items in
    subst (λ old. IsPermutation old (events_in new)) c.self.view_is (IsPermutation-map events_at _ _ c.presort_by_rank.ensures)

pub returns-else-not-are_rising-clause-rising : goal.returns-else-not-are_rising-clause-rising
returns-else-not-are_rising-clause-rising c =
    events_rise c.presort_by_rank.new.items.items (subst AreEndsRising c.deref.ensures.value (c.are_rising.ensures c.if-not-are_rising.false))
