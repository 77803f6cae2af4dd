use Rattle.std.proofs.Common.{sym, ap, ◌∙◌}
use Rattle.std.specs.Prelude.{slice_get}
use Rattle.tl_check_active.proofs.BlocksLemmas.Numbers.{first_is}
use Rattle.tl_check_active.proofs.blocks.block.first_number.Goals as goal

pub returns-in-Some : goal.returns-in-Some
returns-in-Some c =
    let found = c.in-Some.ensures.lookup in
    let is = c.first.ensures.value in
    c.copied.ensures ∙ is ∙ ap (λ xs. slice_get xs 0) c.deref.ensures.value ∙ sym (first_is c.args.blocks.now c.args.next c.in-Some.block.now c.requires found.3.0 found.1)
