use Rattle.std.proofs.Common.{◌≡◌, take}
use Rattle.tl_check_active.specs.Blocks.Keeping.Blocks.{numbers_of}
use Rattle.tl_check_active.proofs.blocks.block.list_numbers.Given as goal

-- the numbers of the blocks so far are listed
abbrev pub invariant-loop-block : goal.invariant-loop-block
invariant-loop-block l = l.numbers.items ≡ numbers_of (take l.block-index l.blocks)
