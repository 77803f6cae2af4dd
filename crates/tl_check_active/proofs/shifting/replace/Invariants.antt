use Rattle.std.proofs.Common.{◌≡◌, ◌++◌, List, ℕ, take}
use Rattle.tl_map_county.specs.TheMap.{MapChain}
use Rattle.tl_check_planar.specs.ByHeight.Heights.{widest}
use Rattle.tl_check_planar.specs.ByHeight.Neighbours.{AreTested, EachTwo}
use Rattle.tl_check_active.proofs.shifting.replace.Given as goal

-- of both lists the first k stand in each other's stead
pub record AreReplaced (chains : List MapChain) (front back old_front old_back outs ins : List ℕ) (k : ℕ) : Type 0 where
  pub off : old_back ≡ take k outs ++ back
  pub more : front ≡ old_front ++ take k ins
  pub tested : EachTwo (AreTested widest chains) old_front → EachTwo (AreTested widest chains) front

abbrev pub invariant-loop-k : goal.invariant-loop-k
invariant-loop-k l = AreReplaced l.map.chains l.line.front l.line.back l.initial.line.front l.initial.line.back l.outs l.ins l.k
