use Rattle.std.proofs.Common.{map, ap, ◌∙◌, sym}
use Rattle.std.proofs.lemmas.List.{map_more, take_all}
use Rattle.std.proofs.lemmas.Result.{err_from_is_err_and}
use Rattle.tl_map_rules.specs.declared.entry.ChainEntry.{ChainEntry}
use Rattle.tl_map_rules.proofs.ListingLemmas.ChainLemmas.{no_chain}
use Rattle.tl_map_rules.proofs.listing.tlids.tlids_of_chains.Goals as goal

pub loop-chain-init : goal.loop-chain-init
loop-chain-init c = c.in_ok-tlids.ensures.items

pub loop-chain-preserved : goal.loop-chain-preserved
loop-chain-preserved c = rw (c.in_ok-push.ensures.items, c.loop-chain.invariant) (sym (map_more (λ (e : ChainEntry). e.tlid) c.args.chains.now c.loop-chain.chain-index no_chain c.loop-chain-test.true))

pub returns : goal.returns
returns c = c.loop-chain.invariant ∙ ap (map (λ (e : ChainEntry). e.tlid)) (take_all c.loop-chain.chain-index c.args.chains.now c.loop-chain-test.false)

pub returns-in_err-tlids : goal.returns-in_err-tlids
returns-in_err-tlids c = let p = err_from_is_err_and c.from_residual.result c.from_residual.ensures.1 in rw p.1 tt

pub returns-in_err-push : goal.returns-in_err-push
returns-in_err-push c = let p = err_from_is_err_and c.from_residual-in_err-push.result c.from_residual-in_err-push.ensures.1 in rw p.1 tt
