use Rattle.std.proofs.Common.{arith, subst}
use Rattle.tl_check_gaps.specs.Keeping.Ranges.{ArePointsInRange}
use Rattle.tl_check_gaps.proofs.Ranges.{one_chain_more, all_near}
use Rattle.tl_check_gaps.proofs.near.has_near_points.Goals as goal

pub loop-c-preserved : goal.loop-c-preserved
loop-c-preserved c =
    one_chain_more c.args.map.now.chains c.loop-c.c c.chain.ensures.chain.chain c.chain.ensures.chain.is
    (subst ArePointsInRange c.chain.ensures.chain.points_are c.look_along.ensures) c.loop-c.invariant

pub returns : goal.returns
returns c =
    let past = c.loop-c-test.false in
    all_near c.args.map.now.chains c.loop-c.c (omega (arith, past, c.loop-c.auto.c-end, c.chains-c-end.ensures)) c.loop-c.invariant
