use Rattle.std.proofs.Common.{◌≡◌, ℕ, ◌<◌, get_or}
use Rattle.tl_map_county.specs.Chains.{tlids}
use Rattle.tl_map.specs.Keeping.Sided.{sides_tlids}
use Rattle.tl_map.proofs.sides.have_tlids.Given as goal

abbrev pub invariant-loop-c : goal.invariant-loop-c
invariant-loop-c l = (k : ℕ) → k < l.c → get_or (sides_tlids l.sides) k 0 ≡ get_or (tlids l.chains.chains) k 0
