use Rattle.std.proofs.Common.{◌<◌, length, get_or, ap, ◌∙◌}
use Rattle.tl_map_rules.specs.Listing.Keeping.Runs.{chain_steps, seen_in_run}
use Rattle.tl_map_rules.proofs.ListingLemmas.ChainLemmas.{passed_shapes, passed_next, capped_sum, no_chain}
use Rattle.tl_map_rules.proofs.listing.chains.count_segments.Goals as goal

pub loop-chain-preserved : goal.loop-chain-preserved
loop-chain-preserved c =
    let chains = c.args.chains.now in
    let shapes = c.args.shapes.now in
    let i = c.loop-chain.chain-index in
    let b = c.first_not_below-start.result in
    let lt : i < length chains = c.loop-chain-test.true in
    let below = passed_shapes chains shapes i c.loop-chain.start b no_chain lt c.loop-chain.invariant.passed c.first_not_below-start.ensures.below in
    record {
      within = c.first_not_below-start.ensures.within;
      passed = passed_next chains shapes i b no_chain c.requires.chains lt below;
      sum = capped_sum shapes chains i c.from.result c.loop-chain.segments c.saturating_add-segments.result no_chain lt
          (c.from.ensures ∙ c.steps_of-steps.ensures ∙ ap (chain_steps (get_or chains i no_chain)) (c.seen_of_run.ensures ∙ ap seen_in_run c.run_at.ensures))
          c.loop-chain.invariant.sum c.saturating_add-segments.ensures;
    }
