use Rattle.std.proofs.Common.{◌≡◌, take}
use Rattle.tl_map.specs.Keeping.Sided.{sides_tlids}
use Rattle.tl_map.proofs.left.tlids_of_sides.Given as goal

abbrev pub invariant-loop-place : goal.invariant-loop-place
invariant-loop-place l = l.made.items ≡ sides_tlids (take l.place l.sides)
