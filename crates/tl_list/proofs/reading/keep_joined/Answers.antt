use Rattle.tl_list.proofs.Taking.{keeps_next}
use Rattle.tl_list.proofs.reading.keep_joined.Goals as goal

pub loop-next-preserved : goal.loop-next-preserved
loop-next-preserved c =
    keeps_next c.deref-next-items.result.now c.loop-next.next-index _ c.loop-next.kept c.add.new.self c.loop-next-test.true c.in_ok-add.ensures c.loop-next.invariant
