use Rattle.std.proofs.Common.{◌≡◌, ◌++◌, List, ℕ, take}
use Rattle.tl_check_active.proofs.shifting.leave.Given as goal

-- those so far are off
pub record AreOff (front back old_front old_back outs : List ℕ) (k : ℕ) : Type 0 where
  pub front_stays : front ≡ old_front
  pub off : old_back ≡ take k outs ++ back

abbrev pub invariant-loop-s : goal.invariant-loop-s
invariant-loop-s l = AreOff l.line.front l.line.back l.initial.line.front l.initial.line.back l.outs l.s-index
