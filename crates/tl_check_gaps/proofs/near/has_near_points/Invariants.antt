use Rattle.tl_check_gaps.specs.Keeping.Ranges.{AreChainsInRange}
use Rattle.tl_check_gaps.proofs.near.has_near_points.Given as goal

-- those of the chains so far
abbrev pub invariant-loop-c : goal.invariant-loop-c
invariant-loop-c l = AreChainsInRange l.map.chains l.c
