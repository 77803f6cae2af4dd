use Rattle.tl_check_active.proofs.Ending.{ended, bent}
use Rattle.tl_check_active.proofs.Listing.{own}
use Rattle.tl_check_active.proofs.events.list_segment.Goals as goal

pub begin_segment-requires-clause-number : goal.begin_segment-requires-clause-number
begin_segment-requires-clause-number c = own c.args.map.now.chains c.args.s c.segment-segment.result c.segment-segment.ensures

pub returns-in_ok-push-in-Some : goal.returns-in_ok-push-in-Some
returns-in_ok-push-in-Some c =
    let chains = c.args.map.now.chains in
    let is = own chains c.args.s c.segment-segment.result c.segment-segment.ensures in
    rw c.in_ok-push-in-Some.ensures.items
    (bent chains c.args.s c.segment-segment.result is c.begin_segment.new.ends.items c.bend.result c.in-Some.next c.in-Some.ensures c.bend.ensures.events c.bend.ensures.ranges c.in_ok-begin_segment.ensures)

pub returns-in_ok-push-in-None : goal.returns-in_ok-push-in-None
returns-in_ok-push-in-None c =
    let chains = c.args.map.now.chains in
    let is = own chains c.args.s c.segment-segment.result c.segment-segment.ensures in
    rw c.in_ok-push-in-None.ensures.items
    (ended chains c.args.s c.segment-segment.result is c.begin_segment.new.ends.items c.last_end.result c.last_end.ensures.events c.last_end.ensures.ranges c.in_ok-begin_segment.ensures)
