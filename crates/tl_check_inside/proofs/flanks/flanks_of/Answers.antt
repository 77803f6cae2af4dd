use Rattle.std.proofs.Common.{◌<ℤ◌, ◌≤ℤ◌, arith}
use Rattle.std.proofs.lemmas.Int.{ints}
use Rattle.std.proofs.lemmas.Option.{slice_get_within}
use Rattle.tl_check_inside.proofs.Sides.{upward, downward}
use Rattle.tl_check_inside.proofs.flanks.flanks_of.Goals as goal

pub returns-then-a-b : goal.returns-then-a-b
returns-then-a-b c =
    let up : c.a.result.y <ℤ c.b.result.y = omega (arith, ints, c.if-a-b.true) in
    upward c.args.map.now.chains c.args.s c.segment-segment.ensures.0 c.segment-segment.ensures.1 c.segment_chain.result c.segment_chain.ensures.0 c.chain-chain.result.tlid c.segment-segment.result c.chain-chain.result.points.now c.chain-chain.result.left c.chain-chain.result.right c.a.result c.b.result
    c.segment-segment.ensures.2 c.segment-segment.ensures.3 c.segment_chain.ensures.1 c.chain-chain.ensures.chain c.a.ensures c.b.ensures up

pub returns-else-a-b : goal.returns-else-a-b
returns-else-a-b c =
    let down : c.b.result.y ≤ℤ c.a.result.y = omega (arith, ints, c.if-a-b.false) in
    downward c.args.map.now.chains c.args.s c.segment-segment.ensures.0 c.segment-segment.ensures.1 c.segment_chain.result c.segment_chain.ensures.0 c.chain-chain.result.tlid c.segment-segment.result c.chain-chain.result.points.now c.chain-chain.result.left c.chain-chain.result.right c.a.result c.b.result
    c.segment-segment.ensures.2 c.segment-segment.ensures.3 c.segment_chain.ensures.1 c.chain-chain.ensures.chain c.a.ensures c.b.ensures down

pub segment-segment-requires : goal.segment-segment-requires
segment-segment-requires c = c.requires

pub segment_chain-requires : goal.segment_chain-requires
segment_chain-requires c = c.requires

pub chain-chain-requires : goal.chain-chain-requires
chain-chain-requires c = let number = c.segment_chain.ensures.1 in slice_get_within _ _ number.chain number.is
