use Rattle.std.proofs.Common.{◌≡◌, ℕ, nat_eq, ap, length, arith}
use Rattle.tl_map_rules.specs.ChainsOf.{chain_count}
use Rattle.tl_map_rules.proofs.ListingLemmas.PartLemmas.{chains_long}
use Rattle.tl_map.proofs.lacking.has_no_chain.Goals as goal

pub returns : goal.returns
returns c = λ rs h.
    let chains = c.args.collected.now.chains in
    let many : c.len.result ≡ chain_count rs = omega (arith, c.len.ensures, chains.ok.0, ap length h.chains, chains_long rs) in
    ap (λ (n : ℕ). nat_eq n 0) many
