use Rattle.std.proofs.Common.{◌≡◌, take}
use Rattle.tl_map_county.specs.Chains.{tlids}
use Rattle.tl_map.proofs.left.tlids_of_chains.Given as goal

abbrev pub invariant-loop-number : goal.invariant-loop-number
invariant-loop-number l = l.made.items ≡ take l.number (tlids l.chains.chains)
