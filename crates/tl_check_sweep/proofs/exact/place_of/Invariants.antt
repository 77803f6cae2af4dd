use Rattle.std.proofs.Common.{◌≡◌, ℕ, Some, take}
use Rattle.tl_check_planar.specs.ByHeight.Heights.{widest}
use Rattle.tl_check_active.specs.Blocks.Lined.{last_of}
use Rattle.tl_check_gaps.specs.Beside.{IsEastOf}
use Rattle.tl_check_sweep.proofs.exact.place_of.Given as goal

-- the point lies east of the last one so far
abbrev pub invariant-loop-k : goal.invariant-loop-k
invariant-loop-k l = (t : ℕ) → last_of (take l.k l.numbers) ≡ Some t → IsEastOf widest l.map.chains l.p t
