use Rattle.std.proofs.Common.{◌<◌, length, take, arith}
use Rattle.tl_map.proofs.CollectLemmas.{AreSeen, AreSeen-none, AreSeen-some, AreSeen-all, filled}
use Rattle.tl_map.proofs.collect.append_used.Goals as goal
use Rattle.tl_map.proofs.collect.append_used.Goals.{in-None, in-Some+in_ok-push-in-Some}

pub loop-pair-preserved : goal.loop-pair-preserved
loop-pair-preserved c =
    let i = c.loop-pair.pair-index in
    let pairs = c.args.pairs.now in
    let within : i < length pairs = omega (arith, c.told-pairs) in
    let before : AreSeen c.args.pool.now.items c.loop-pair.pool.items c.loop-pair.ended c.loop-pair.gap (take i pairs) = record { points = c.loop-pair.invariant.points; ended = c.loop-pair.invariant.ended; gap = c.loop-pair.invariant.gap } in
    elim c.match-pair.branch [
      | in-None w ↦
          let after = AreSeen-none _ _ _ _ pairs i within w.in-None.is before in
          rw (w.pool-is, w.ended-is, w.gap-is) (record { points = after.points; ended = after.ended; gap = after.gap })
      | in-Some+in_ok-push-in-Some w ↦
          let after = AreSeen-some _ _ _ _ pairs i w.in-Some.point within w.in-Some.is before in
          rw (w.pool-is, w.ended-is, w.gap-is, w.in_ok-push-in-Some.ensures.items) (record { points = after.points; ended = after.ended; gap = after.gap })
    ]

pub returns-clause-points : goal.returns-clause-points
returns-clause-points c =
    let all = AreSeen-all c.args.pool.now.items c.loop-pair.pool.items c.loop-pair.ended c.loop-pair.gap c.args.pairs.now c.loop-pair.pair-index (omega (arith, c.loop-pair-test.false)) (record { points = c.loop-pair.invariant.points; ended = c.loop-pair.invariant.ended; gap = c.loop-pair.invariant.gap }) in
    all.points

pub returns-clause-fill : goal.returns-clause-fill
returns-clause-fill c =
    let all = AreSeen-all c.args.pool.now.items c.loop-pair.pool.items c.loop-pair.ended c.loop-pair.gap c.args.pairs.now c.loop-pair.pair-index (omega (arith, c.loop-pair-test.false)) (record { points = c.loop-pair.invariant.points; ended = c.loop-pair.invariant.ended; gap = c.loop-pair.invariant.gap }) in
    filled c.args.pool.now.items c.loop-pair.pool.items c.loop-pair.ended c.loop-pair.gap c.args.pairs.now _ c.fill_from.ensures all
