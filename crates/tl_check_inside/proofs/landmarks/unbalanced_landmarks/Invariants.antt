use Rattle.std.proofs.Common.{◌≡◌}
use Rattle.tl_check_inside.specs.Keeping.Listed.{passing}
use Rattle.tl_check_inside.specs.Keeping.Sums.{sums_differ}
use Rattle.tl_check_inside.proofs.landmarks.unbalanced_landmarks.Given as goal

-- those so far are listed
abbrev pub invariant-loop-l : goal.invariant-loop-l
invariant-loop-l l = l.listed.items ≡ passing (sums_differ l.map.landmarks l.near l.far) l.l
