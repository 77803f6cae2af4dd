use Rattle.tl_map_county.specs.Keeping.Numbered.{NumberUpTo}
use Rattle.tl_map_county.proofs.segments.number_segments.Given as goal

abbrev pub invariant-loop-c : goal.invariant-loop-c
invariant-loop-c l = NumberUpTo l.chains.chains l.c l.of.items
