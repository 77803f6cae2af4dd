use Rattle.tl_map_county.specs.Keeping.Remaining.{AreRemaining}
use Rattle.tl_map_county.proofs.without.remaining_chains.Given as goal

-- what remains of the chains so far
abbrev pub invariant-loop-c : goal.invariant-loop-c
invariant-loop-c l = AreRemaining l.marks l.chains.chains l.sides l.polygons l.c l.points.items l.rows.items l.rest
