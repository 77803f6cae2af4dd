use Rattle.std.proofs.Common.{inl, inr, arith}
use Rattle.tl_map.proofs.StrayLemmas.{all_below, stray_found, chain_found, passed_more, known_more}
use Rattle.tl_map.proofs.passes.have_chains.Goals as goal
use Rattle.tl_map.proofs.passes.have_chains.Goals.{then-below-chains-via-then-below-chains, then-below-chains-via-else-below-chains+then-chains-below}

pub returns-then-below-chains : goal.returns-then-below-chains
returns-then-below-chains c =
    let chains = c.args.chains.now in
    let shapes = c.args.shapes.now in
    let b = c.first_not_below-below.result in
    let i = c.loop-shape.shape-index in
    let passed = all_below chains shapes i c.loop-shape.below b _ c.loop-shape-test.true c.requires.ordered c.loop-shape.invariant.passed c.first_not_below-below.ensures.below in
    let stray = stray_found chains shapes i b _ _ c.loop-shape-test.true c.requires.rising passed c.first_not_below-below.ensures.stops
    (elim c.then-below-chains.branch [
      | then-below-chains-via-then-below-chains w ↦ inl w.if-below-chains.true
      | then-below-chains-via-else-below-chains+then-chains-below w ↦ inr w.if-chains-below.true
    ]) in
    (_, stray.0, stray.1)

pub loop-shape-preserved : goal.loop-shape-preserved
loop-shape-preserved c =
    let chains = c.args.chains.now in
    let shapes = c.args.shapes.now in
    let b = c.first_not_below-below.result in
    let i = c.loop-shape.shape-index in
    let passed = all_below chains shapes i c.loop-shape.below b _ c.loop-shape-test.true c.requires.ordered c.loop-shape.invariant.passed c.first_not_below-below.ensures.below in
    record {
      within = c.first_not_below-below.ensures.within;
      passed = passed_more chains shapes i b _ c.loop-shape-test.true passed;
      known = known_more chains shapes i _ c.loop-shape-test.true c.loop-shape.invariant.known (chain_found chains _ b _ (omega (arith, c.if-below-chains.false, c.first_not_below-below.ensures.within)) c.if-chains-below.false);
    }
