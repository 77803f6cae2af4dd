use Rattle.std.proofs.Common.{◌≡◌, ℕ, ◌<◌, Some}
use Rattle.std.specs.Prelude.{slice_get}
use Rattle.tl_map_county.specs.TheMap.{MapChain}
use Rattle.tl_check_inside.specs.Keeping.Probing.{AreInReach}
use Rattle.tl_check_inside.proofs.reach.has_points_in_reach.Given as goal

-- nor of the chains so far
abbrev pub invariant-loop-c : goal.invariant-loop-c
invariant-loop-c l = (d : ℕ) (chain : MapChain) → d < l.c → slice_get l.map.chains d ≡ Some chain → AreInReach chain.points
