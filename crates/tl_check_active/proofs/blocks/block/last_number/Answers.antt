use Rattle.std.proofs.Common.{sym, ap, ◌∙◌}
use Rattle.tl_check_active.specs.Blocks.Lined.{last_of}
use Rattle.tl_check_active.proofs.BlocksLemmas.Numbers.{last_is}
use Rattle.tl_check_active.proofs.blocks.block.last_number.Goals as goal

pub returns-in-Some : goal.returns-in-Some
returns-in-Some c =
    let last = c.in-Some.ensures.value in
    let is = c.last-in-Some.ensures.value in
    c.copied.ensures ∙ is ∙ ap last_of c.deref.ensures.value ∙ sym (last_is c.args.blocks.now c.in-Some.block.now c.requires (sym last))
