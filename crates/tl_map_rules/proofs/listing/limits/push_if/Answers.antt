use Rattle.tl_map_rules.proofs.ListingLemmas.LimitLemmas.{told_if, told_not}
use Rattle.tl_map_rules.proofs.listing.limits.push_if.Goals as goal

pub returns-in_ok-push : goal.returns-in_ok-push
returns-in_ok-push c = rw c.in_ok-push.ensures.items (told_if c.args.is_more c.args.what c.args.faults.now.items c.if-is_more.true)

pub returns-else-is_more : goal.returns-else-is_more
returns-else-is_more c = told_not c.args.is_more c.args.what c.args.faults.now.items c.if-is_more.false
