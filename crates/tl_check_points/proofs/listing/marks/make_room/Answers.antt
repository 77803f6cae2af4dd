use Rattle.std.proofs.Common.{false, ◌+◌, refl, arith}
use Rattle.tl_check_points.proofs.ListingLemmas.Marking.{grown}
use Rattle.tl_check_points.proofs.listing.marks.make_room.Goals as goal

pub returns-in-Ok-clause-same : goal.returns-in-Ok-clause-same
returns-in-Ok-clause-same c =
    let old = c.args.marks.now.items in
    let new = c.resize.new.self.items in
    let short = c.if-len-long.false in
    let long = c.args.marks.now.ok.0 in
    grown old new (c.args.p + 1) (omega (arith, c.in-Ok.ensures.len, c.resize.new.self.ok.0)) (omega (arith, short, c.len.ensures, long))
    (λ k low. c.in-Ok.ensures.by_index.0 k false (omega (arith, low, short, c.len.ensures, long)) (omega (arith, low, long)))
    (λ k high low. c.in-Ok.ensures.by_index.1 k false refl (omega (arith, high, long)) low)
