use Rattle.tl_check_active.proofs.blocks.ahead.find_blocks.Given as goal

abbrev pub decreases-loop-length : goal.decreases-loop-length
decreases-loop-length g l = l.length
