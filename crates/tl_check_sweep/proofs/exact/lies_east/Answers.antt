use Rattle.std.proofs.Common.{refl, arith}
use Rattle.tl_geom.specs.Plane.{turn_of}
use Rattle.tl_check_planar.proofs.Numbering.{below_total}
use Rattle.tl_check_planar.specs.ByHeight.Heights.{widest}
use Rattle.tl_check_active.proofs.Listing.{own}
use Rattle.tl_check_active.proofs.Tests.{lt_test}
use Rattle.tl_check_gaps.proofs.Spotting.{east_by, not_east_by}
use Rattle.tl_check_gaps.proofs.Turning.{not_lt_test}
use Rattle.tl_check_sweep.proofs.exact.lies_east.Goals as goal

pub returns-clause-east : goal.returns-clause-east
returns-clause-east c = λ h.
    let is = own c.args.map.now.chains c.args.s c.segment.result c.segment.ensures in
    east_by widest c.args.map.now.chains c.args.p c.args.s c.args.s c.segment.result _ _ refl is c.ends.ensures.low c.ends.ensures.high
    (lt_test (turn_of c.ends.result.0 c.ends.result.1 c.args.p) _ _ c.turn.ensures c.is_lt.ensures h)

pub returns-clause-other : goal.returns-clause-other
returns-clause-other c = λ h.
    let is = own c.args.map.now.chains c.args.s c.segment.result c.segment.ensures in
    not_east_by widest c.args.map.now.chains c.args.p c.args.s c.args.s c.segment.result _ _ refl is c.ends.ensures.low c.ends.ensures.high
    (not_lt_test (turn_of c.ends.result.0 c.ends.result.1 c.args.p) _ _ c.turn.ensures c.is_lt.ensures h)

pub returns-then-s-segments-clause-other : goal.returns-then-s-segments-clause-other
returns-then-s-segments-clause-other c = λ h u is.
    let lt = below_total c.args.map.now.chains c.args.s is.c is.k is.number in
    let ge = c.if-s-segments.true in
    let count = c.segments.ensures.count in
    absurd (omega (arith, lt, ge, count))
