use Rattle.tl_geom.specs.Plane.{turn_of}
use Rattle.tl_check_planar.specs.Keeping.Apart.{one_found}
use Rattle.tl_check_planar.specs.ByHeight.Heights.{widest}
use Rattle.tl_check_active.proofs.Listing.{own}
use Rattle.tl_check_gaps.proofs.Spotting.{west_by}
use Rattle.tl_check_gaps.proofs.Turning.{gt_test}
use Rattle.tl_check_gaps.proofs.placing.is_west_of.Goals as goal

pub returns : goal.returns
returns c = λ h t e.
    let is = own c.args.map.now.chains c.in-Some.s c.segment.result c.segment.ensures in
    west_by widest c.args.map.now.chains c.args.p c.in-Some.s t c.segment.result _ _ (one_found c.in-Some.s t c.args.s c.in-Some.is e) is c.ends.ensures.low c.ends.ensures.high
    (gt_test (turn_of c.ends.result.0 c.ends.result.1 c.args.p) _ _ c.turn.ensures c.is_gt.ensures h)
