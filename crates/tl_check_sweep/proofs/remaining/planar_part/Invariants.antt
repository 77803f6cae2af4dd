use Rattle.std.proofs.Common.{◌≡◌, length}
use Rattle.tl_check_sweep.proofs.remaining.planar_part.Given as goal

abbrev pub invariant-loop-attempt : goal.invariant-loop-attempt
invariant-loop-attempt l = length l.marks.items ≡ length l.map.chains
