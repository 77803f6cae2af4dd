use Rattle.std.proofs.Common.{◌++◌, ap₂, sym, ◌∙◌}
use Rattle.tl_check_active.proofs.BlocksLemmas.Numbers.{numbers_more}
use Rattle.tl_check_active.proofs.blocks.block.list_numbers.Goals as goal

pub loop-block-preserved : goal.loop-block-preserved
loop-block-preserved c =
    c.in_ok-extend_from_slice.ensures.items ∙ ap₂ (λ a b. a ++ b) c.loop-block.invariant c.deref.ensures.value
    ∙ sym (numbers_more c.args.blocks.now c.loop-block.block-index c.block-item.result c.loop-block-test.true c.block-item.is)
