use Rattle.std.proofs.Common.{take}
use Rattle.tl_check_inside.specs.Keeping.Tallies.{AreEven}
use Rattle.tl_check_inside.proofs.misplaced.find_odd.Given as goal

-- the polygons of the flanks so far are even
abbrev pub invariant-loop-place : goal.invariant-loop-place
invariant-loop-place l = AreEven (take l.place l.crossed) l.near l.far l.own
