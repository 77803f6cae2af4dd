use Rattle.tl_check_planar.specs.ByHeight.Heights.{widest}
use Rattle.tl_check_active.proofs.Listing.{own}
use Rattle.tl_check_active.proofs.Tests.{tested, never}
use Rattle.tl_check_active.proofs.neighbours.are_tested.Goals as goal

pub returns-then-is_beside : goal.returns-then-is_beside
returns-then-is_beside c = λ h.
    let chains = c.args.map.now.chains in
    tested widest chains c.args.s c.args.t c.segment-one.result c.segment-other.result
    (own chains c.args.s c.segment-one.result c.segment-one.ensures) (own chains c.args.t c.segment-other.result c.segment-other.ensures)
    (c.is_beside.ensures.west c.if-is_beside.true) (c.is_beside.ensures.apart c.if-is_beside.true)

pub returns-else-is_beside : goal.returns-else-is_beside
returns-else-is_beside c = λ h.
    let chains = c.args.map.now.chains in
    tested widest chains c.args.s c.args.t c.segment-one.result c.segment-other.result
    (own chains c.args.s c.segment-one.result c.segment-one.ensures) (own chains c.args.t c.segment-other.result c.segment-other.ensures)
    (c.are_closely_tested.ensures.west h) (c.are_closely_tested.ensures.apart h)

pub returns-then-s-count : goal.returns-then-s-count
returns-then-s-count c = λ h. never h
