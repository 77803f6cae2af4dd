use Rattle.std.proofs.Common.{◌<◌, ◌≤◌, length, drop, sym, ap, subst, ◌∙◌, arith}
use Rattle.tl_check_active.specs.Blocks.Keeping.Blocks.{numbers_of, AreSome}
use Rattle.tl_check_active.proofs.BlocksLemmas.Numbers.{rest_some, one_less_numbers}
use Rattle.tl_check_active.proofs.blocks.block.take_first.Goals as goal

pub returns-else-len-gt1-clause-some : goal.returns-else-len-gt1-clause-some
returns-else-len-gt1-clause-some c =
    subst AreSome (ap (drop c.args.next) (sym c.remove-else-len-gt1.ensures.items)) (rest_some c.args.blocks.now.items c.args.next c.requires.some)

pub returns-else-len-gt1-clause-numbers : goal.returns-else-len-gt1-clause-numbers
returns-else-len-gt1-clause-numbers c =
    let old = c.args.blocks.now.items in
    let next = c.args.next in
    let count = c.len.ensures in
    let past = c.if-next-len.false in
    let long = c.len-2.ensures in
    let few = c.if-len-gt1.false in
    let lt : next < length old = omega (arith, count, past) in
    let le : length c.index.result.now.items ≤ 1 = omega (arith, long, few) in
    ap (λ bs. numbers_of (drop next bs)) c.remove-else-len-gt1.ensures.items ∙ one_less_numbers old next c.index.result.now lt c.index.ensures le c.requires.some
