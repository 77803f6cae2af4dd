use Rattle.std.proofs.Common.{subst}
use Rattle.tl_check_active.specs.Keeping.Ended.{AreListed}
use Rattle.tl_check_active.proofs.Ending.{begun}
use Rattle.tl_check_active.proofs.events.begin_segment.Goals as goal

pub returns : goal.returns
returns c =
    let chains = c.args.map.now.chains in
    let listed = subst (λ b. AreListed chains c.args.s b c.args.ends.now.items) c.if-is_begun.false c.requires.listed in
    rw c.in_ok-push.ensures.items (begun chains c.args.s c.args.segment c.requires.number c.args.ends.now.items c.first_end.result c.first_end.ensures listed)
