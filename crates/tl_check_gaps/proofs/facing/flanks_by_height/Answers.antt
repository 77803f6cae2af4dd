use Rattle.std.proofs.Common.{sym, ◌∙◌}
use Rattle.tl_check_active.proofs.Listing.{own}
use Rattle.tl_check_gaps.proofs.Odd.{west_named, east_named}
use Rattle.tl_check_gaps.proofs.Raised.{rising, falling}
use Rattle.tl_check_gaps.proofs.facing.flanks_by_height.Goals as goal

pub returns-then-is_lower : goal.returns-then-is_lower
returns-then-is_lower c =
    let chains = c.args.map.now.chains in
    let is = own chains c.args.s c.segment-segment.result c.segment-segment.ensures in
    let flanks = rising chains c.args.s is.c is.k c.segment_chain.result c.segment_chain.ensures.0 c.chain-chain.result.tlid c.segment-segment.result
    c.chain-chain.result.points.now c.chain-chain.result.left c.chain-chain.result.right c.a.result c.b.result
    is.number is.joins c.segment_chain.ensures.1 c.chain-chain.ensures.chain c.a.ensures c.b.ensures (sym c.is_lower.ensures ∙ c.if-is_lower.true) in
    record { west = west_named chains c.args.s c.segment-segment.result is _ flanks; east = east_named chains c.args.s c.segment-segment.result is _ flanks }

pub returns-else-is_lower : goal.returns-else-is_lower
returns-else-is_lower c =
    let chains = c.args.map.now.chains in
    let is = own chains c.args.s c.segment-segment.result c.segment-segment.ensures in
    let flanks = falling chains c.args.s is.c is.k c.segment_chain.result c.segment_chain.ensures.0 c.chain-chain.result.tlid c.segment-segment.result
    c.chain-chain.result.points.now c.chain-chain.result.left c.chain-chain.result.right c.a.result c.b.result
    is.number is.joins c.segment_chain.ensures.1 c.chain-chain.ensures.chain c.a.ensures c.b.ensures (sym c.is_lower.ensures ∙ c.if-is_lower.false) in
    record { west = west_named chains c.args.s c.segment-segment.result is _ flanks; east = east_named chains c.args.s c.segment-segment.result is _ flanks }
