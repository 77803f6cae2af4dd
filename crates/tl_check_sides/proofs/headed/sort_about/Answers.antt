use Rattle.std.proofs.Common.{rules, ◌≡◌, ◌↔◌}
use Rattle.std.specs.declared.cmp.Ordering.TheVariants.{Less}
use Rattle.std.proofs.lemmas.List.Sorted.{answers_always, IsPermutation-trans}
use Rattle.tl_check_sides.specs.Headed.{ComesBefore}
use Rattle.tl_check_sides.proofs.SortLemmas.{comes, weak_order, as_test}
use Rattle.tl_check_sides.proofs.Sorting.{are_sorted}
use Rattle.tl_check_sides.proofs.headed.sort_about.Goals as goal

pub returns-clause-sorted : goal.returns-clause-sorted
returns-clause-sorted c =
    are_sorted c.sort_unstable_by.new.self.items
    (c.sort_unstable_by.ensures.sorted comes weak_order (answers_always _ _ _ (λ f a r next called.
    let is : (r ≡ Less) ↔ ComesBefore a.0.now a.1.0.now = search rules in
    as_test a.0.now a.1.0.now r is.0 is.1)))

pub returns-clause-same : goal.returns-clause-same
returns-clause-same c = IsPermutation-trans _ _ _ c.in_ok-presort_by_rank.ensures c.sort_unstable_by.ensures.permutation
