use Rattle.std.proofs.Common.{◌≡◌, sym, refl, subst, ℕ, get_or}
use Rattle.std.specs.Prelude.{Vec}
use Rattle.std.specs.Global.{Global}
use Rattle.tl_check_active.proofs.BlocksLemmas.Numbers.{lifted_numbers}
use Rattle.tl_check_active.proofs.blocks.block.lift.Goals as goal

pub returns-clause-numbers : goal.returns-clause-numbers
returns-clause-numbers c =
    let old = c.args.blocks.now.items in
    let place = c.args.place in
    lifted_numbers old _ place c.swap.new.x c.swap.new.y c.requires.within
    (subst (λ (block : Vec ℕ Global). block ≡ get_or old place block) (sym c.swap.ensures.x_after) c.index_mut.ensures.value) refl
