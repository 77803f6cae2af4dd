use Rattle.std.proofs.Common.{◌≡◌, take}
use Rattle.tl_map.proofs.landmarks.points_of.Given as goal

abbrev pub invariant-loop-number : goal.invariant-loop-number
invariant-loop-number l = l.points.items ≡ take l.number l.firsts.entries
