use Rattle.std.proofs.Common.{◌≡◌, ◌++◌, List, ℕ, take}
use Rattle.tl_map_county.specs.TheMap.{MapChain}
use Rattle.tl_check_planar.specs.ByHeight.Heights.{widest}
use Rattle.tl_check_planar.specs.ByHeight.Neighbours.{AreTested, EachTwo}
use Rattle.tl_check_active.proofs.shifting.enter.Given as goal

-- those so far are in
pub record AreIn (chains : List MapChain) (front back old_front old_back ins : List ℕ) (k : ℕ) : Type 0 where
  pub back_stays : back ≡ old_back
  pub more : front ≡ old_front ++ take k ins
  pub tested : EachTwo (AreTested widest chains) old_front → EachTwo (AreTested widest chains) front

abbrev pub invariant-loop-s : goal.invariant-loop-s
invariant-loop-s l = AreIn l.map.chains l.line.front l.line.back l.initial.line.front l.initial.line.back l.ins l.s-index
