use Rattle.std.proofs.Common.{arith}
use Rattle.tl_check_gaps.proofs.Ranges.{one_more, all_points}
use Rattle.tl_check_gaps.proofs.near.look_along.Goals as goal

pub loop-k-preserved : goal.loop-k-preserved
loop-k-preserved c = one_more _ _ _ c.look_at.ensures c.loop-k.invariant

pub returns : goal.returns
returns c = let past = c.loop-k-test.false in all_points _ c.loop-k.k (omega (arith, past, c.loop-k.auto.k-end)) c.loop-k.invariant
