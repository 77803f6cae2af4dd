use Rattle.std.proofs.Common.{◌≡◌, take, map}
use Rattle.tl_map_rules.specs.declared.entry.ChainEntry.{ChainEntry}
use Rattle.tl_map_rules.proofs.listing.tlids.tlids_of_chains.Given as goal

abbrev pub invariant-loop-chain : goal.invariant-loop-chain
invariant-loop-chain l = l.tlids.items ≡ map (λ (c : ChainEntry). c.tlid) (take l.chain-index l.chains)
