use Rattle.std.proofs.Common.{ℕ, ◌+◌, ◌<◌, ◌≤ℤ◌}
use Rattle.std.specs.Prelude.{slice_index_or}
use Rattle.tl_check_planar.specs.ByHeight.Heights.{height, widest}
use Rattle.tl_check_active.specs.declared.events.End.{End}
use Rattle.tl_check_active.proofs.events.are_rising.Given as goal

abbrev pub invariant-loop-k : goal.invariant-loop-k
invariant-loop-k l = (j : ℕ) (d : End) → j + 1 < l.k → height widest (slice_index_or l.ends j d).point ≤ℤ height widest (slice_index_or l.ends (j + 1) d).point
