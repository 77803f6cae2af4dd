use Rattle.std.proofs.Common.{ℕ, ◌<◌, ◌++◌, List, length, take, drop, refl, sym, ap, subst, ◌∙◌}
use Rattle.std.specs.Prelude.{Vec}
use Rattle.std.specs.Global.{Global}
use Rattle.std.proofs.lemmas.Result.{err_from_is_err_and}
use Rattle.tl_check_active.specs.Blocks.Keeping.Blocks.{numbers_of, AreSome}
use Rattle.tl_check_active.proofs.BlocksLemmas.Numbers.{front_kept, rest_some, joined_numbers}
use Rattle.tl_check_active.proofs.blocks.block.join.Goals as goal

pub returns-in_err-extend_from_slice-clause-some : goal.returns-in_err-extend_from_slice-clause-some
returns-in_err-extend_from_slice-clause-some c =
    subst AreSome (ap (drop c.args.next) (sym c.remove-block.ensures.items)) (rest_some c.args.blocks.now.items c.args.next c.requires.some)

pub returns-in_ok-extend_from_slice-clause-some : goal.returns-in_ok-extend_from_slice-clause-some
returns-in_ok-extend_from_slice-clause-some c =
    subst AreSome (ap (drop c.args.next) (sym c.remove-block.ensures.items)) (rest_some c.args.blocks.now.items c.args.next c.requires.some)

pub returns-in_err-extend_from_slice-clause-before : goal.returns-in_err-extend_from_slice-clause-before
returns-in_err-extend_from_slice-clause-before c = ap (take c.args.next) c.remove-block.ensures.items ∙ front_kept c.args.blocks.now.items c.args.next

pub returns-in_err-extend_from_slice-clause-numbers : goal.returns-in_err-extend_from_slice-clause-numbers
returns-in_err-extend_from_slice-clause-numbers c = let p = err_from_is_err_and c.from_residual.result c.from_residual.ensures.1 in rw p.1 tt

pub returns-in_ok-extend_from_slice-clause-before : goal.returns-in_ok-extend_from_slice-clause-before
returns-in_ok-extend_from_slice-clause-before c = ap (take c.args.next) c.remove-block.ensures.items ∙ front_kept c.args.blocks.now.items c.args.next

pub returns-in_ok-extend_from_slice-clause-numbers : goal.returns-in_ok-extend_from_slice-clause-numbers
returns-in_ok-extend_from_slice-clause-numbers c =
    let old = c.args.blocks.now.items in
    let next = c.args.next in
    let more = c.extend_from_slice.new.self.items in
    ap (λ bs. more ++ numbers_of (drop next bs)) c.remove-block.ensures.items ∙
    joined_numbers old next c.remove-block.result c.args.items.now.items more
    (subst (λ (blocks : List (Vec ℕ Global)). next < length blocks) c.deref.ensures.value (c.are_small.ensures c.if-are_small.true)) c.remove-block.ensures.value
    (c.in_ok-extend_from_slice.ensures.items ∙ ap (λ xs. c.args.items.now.items ++ xs) c.deref-then-are_small.ensures.value)

pub returns-else-are_small-clause-some : goal.returns-else-are_small-clause-some
returns-else-are_small-clause-some c = c.requires.some

pub returns-else-are_small-clause-before : goal.returns-else-are_small-clause-before
returns-else-are_small-clause-before c = refl

pub returns-else-are_small-clause-numbers : goal.returns-else-are_small-clause-numbers
returns-else-are_small-clause-numbers c = refl
