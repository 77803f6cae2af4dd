use Rattle.std.proofs.Common.{sym, ap, ◌∙◌, arith}
use Rattle.tl_check_planar.specs.ByHeight.Heights.{height, widest}
use Rattle.tl_check_planar.proofs.Numbering.{below_total}
use Rattle.tl_check_planar.proofs.ByHeight.Numbered.{one_segment}
use Rattle.tl_check_active.proofs.Listing.{own}
use Rattle.tl_check_active.proofs.Tests.{same_high}
use Rattle.tl_check_sweep.proofs.exact.ends_at.Goals as goal

pub returns-then-s-segments-clause-elsewhere : goal.returns-then-s-segments-clause-elsewhere
returns-then-s-segments-clause-elsewhere c = λ h u is.
    let lt = below_total c.args.map.now.chains c.args.s is.c is.k is.number in
    let ge = c.if-s-segments.true in
    let count = c.segments.ensures.count in
    absurd (omega (arith, lt, ge, count))

pub returns-clause-here : goal.returns-clause-here
returns-clause-here c = λ h.
    let is = own c.args.map.now.chains c.args.s c.segment.result c.segment.ensures in
    (c.segment.result, is, sym c.ends.ensures.high ∙ c.are_one.ensures.one h)

pub returns-clause-elsewhere : goal.returns-clause-elsewhere
returns-clause-elsewhere c = λ h u is e.
    let own_is = own c.args.map.now.chains c.args.s c.segment.result c.segment.ensures in
    c.are_one.ensures.differ h
    (ap (height widest) (c.ends.ensures.high ∙ same_high widest c.segment.result u (one_segment c.args.map.now.chains c.args.s c.segment.result u own_is is) ∙ e))
