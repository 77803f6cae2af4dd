use Rattle.std.proofs.Common.{[], ◌∷◌, ◌++◌, take}
use Rattle.tl_check_planar.specs.ByHeight.Neighbours.{EachTwo}
use Rattle.tl_check_sweep.specs.Keeping.Exact.{IsWestOfOther}
use Rattle.tl_check_sweep.proofs.exact.place_among.Given as goal

-- it could stand behind those so far
abbrev pub invariant-loop-k : goal.invariant-loop-k
invariant-loop-k l = EachTwo (IsWestOfOther l.map.chains) (take l.k l.list ++ (l.s ∷ []))
