use Rattle.std.proofs.Common.{◌<◌, ◌≤◌, ◌-◌, ◌/◌, arith}
use Rattle.tigertopo_faults.proofs.SegmentLemmas.{within_is, fewer}
use Rattle.tigertopo_faults.proofs.records.segment.number_within.Goals as goal

pub loop-fewest-preserved : goal.loop-fewest-preserved
loop-fewest-preserved c =
    let before = c.loop-fewest.invariant in
    let at = c.segment_chain.ensures in
    let inside = before.within in
    let test = c.loop-fewest-test.true in
    let many = c.loop-fewest.most - (c.loop-fewest.most - c.loop-fewest.fewest) / 2 in
    let some : 0 < many = omega (arith, test) in
    let within : many ≤ c.args.segment = omega (arith, inside) in
    record {
      fewest = before.fewest;
      most = λ k own. fewer c.args.map.now.chains c.args.segment c.segment_chain-chain.result c.segment_chain.result k at.0 many some within own at.1 c.if-segment_chain-chain.false;
      within = omega (arith, inside);
    }

pub returns : goal.returns
returns c =
    let at = c.segment_chain-chain.ensures in
    let low = c.loop-fewest.invariant.fewest at.0 at.1 in
    let high = c.loop-fewest.invariant.most at.0 at.1 in
    let over = c.loop-fewest-test.false in
    within_is c.args.map.now.chains c.args.segment c.segment_chain-chain.result at.0 c.loop-fewest.fewest at.1 (omega (arith, low, high, over))
