use Rattle.tl_check_sides.proofs.WalkFacts.{StepsSoFar}
use Rattle.tl_check_sides.proofs.walks.step_round.Given as goal

-- the darts so far follow those before them
abbrev pub invariant-loop-place : goal.invariant-loop-place
invariant-loop-place l = StepsSoFar l.map.chains l.walk l.place
