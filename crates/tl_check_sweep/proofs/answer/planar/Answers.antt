use Rattle.tl_check_sweep.proofs.answer.planar.Goals as goal

pub returns-then-are_placed : goal.returns-then-are_placed
returns-then-are_placed c = (c.requires.planar, c.are_placed.ensures c.if-are_placed.true)
