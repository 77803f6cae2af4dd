use Rattle.std.proofs.Common.{arith}
use Rattle.std.proofs.lemmas.List.Sorted.{IsPermutation-swap}
use Rattle.tl_check_active.proofs.Gathering.{times_moved}
use Rattle.tl_check_active.proofs.vertices.order_some.Goals as goal

pub returns-then-len-gt2 : goal.returns-then-len-gt2
returns-then-len-gt2 c = λ s. times_moved s _ _ c.sort_unstable_by.ensures.permutation

pub returns-then-is_lt : goal.returns-then-is_lt
returns-then-is_lt c = λ s.
    let two = c.if-len-eq2.true in
    times_moved s _ _ (IsPermutation-swap _ _ 0 1 (omega (arith, two)) (omega (arith, two)) c.swap.ensures.items)
