use Rattle.std.proofs.Common.{length}
use Rattle.tl_tree.proofs.leaf.+test_blocks.Given as goal

-- the others
abbrev pub decreases-test_blocks : goal.decreases-test_blocks
decreases-test_blocks g l = length l.others.now
