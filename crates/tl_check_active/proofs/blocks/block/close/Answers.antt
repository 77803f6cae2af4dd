use Rattle.std.proofs.Common.{◌<◌, ◌++◌, length, take, drop, ap, sym, refl, subst, ◌∙◌, ◌+◌, ℕ, arith}
use Rattle.std.specs.Prelude.{Vec}
use Rattle.std.specs.Global.{Global}
use Rattle.tl_check_active.specs.Blocks.Keeping.Blocks.{numbers_of, AreSome}
use Rattle.tl_check_active.proofs.BlocksLemmas.Numbers.{some_by_test, none_by_test, gone_numbers, gone_some, closed_numbers, closed_some}
use Rattle.tl_check_active.proofs.blocks.block.close.Goals as goal

pub returns-then-is_empty-clause-numbers : goal.returns-then-is_empty-clause-numbers
returns-then-is_empty-clause-numbers c =
    let old = c.args.blocks.now.items in
    let items = c.args.items.now in
    let ok = items.ok in
    ap numbers_of c.remove.ensures.items ∙ gone_numbers old c.args.place items.items (none_by_test items.items items.len _ c.is_empty.ensures c.if-is_empty.true (omega (arith, ok)))

pub returns-clause-some : goal.returns-clause-some
returns-clause-some c =
    let items = c.args.items.now in
    let some : 0 < length items.items = let more = some_by_test items.len _ c.is_empty.ensures c.if-is_empty.false in let ok = items.ok in omega (arith, more, ok) in
    closed_some c.args.blocks.now.items _ c.args.place c.swap.new.y c.requires.within refl
    (subst (λ (block : Vec ℕ Global). 0 < length block.items) (sym c.swap.ensures.y_after) some) c.requires.before c.requires.behind

pub returns-clause-numbers : goal.returns-clause-numbers
returns-clause-numbers c =
    let old = c.args.blocks.now.items in
    let place = c.args.place in
    closed_numbers old _ place c.swap.new.y c.requires.within refl ∙
    ap (λ (block : Vec ℕ Global). numbers_of (take place old) ++ (block.items ++ numbers_of (drop (place + 1) old))) c.swap.ensures.y_after

pub remove-requires : goal.remove-requires
remove-requires c = let ok = c.args.blocks.now.ok in let within = c.requires.within in omega (arith, ok, within)

pub index_mut-requires : goal.index_mut-requires
index_mut-requires c = let ok = c.args.blocks.now.ok in let within = c.requires.within in omega (arith, ok, within)

pub returns-then-is_empty-clause-some : goal.returns-then-is_empty-clause-some
returns-then-is_empty-clause-some c = subst AreSome (sym c.remove.ensures.items) (gone_some c.args.blocks.now.items c.args.place c.requires.before c.requires.behind)
