use Rattle.std.proofs.Common.{◌∙◌}
use Rattle.tl_map.proofs.JoinedReadLemmas.{collects_next, collects_whole}
use Rattle.tl_map.proofs.read.collect_joined.Goals as goal

pub loop-next-preserved : goal.loop-next-preserved
loop-next-preserved c =
    collects_next c.deref-next-items.result.now c.loop-next.next-index _ c.loop-next.collected _ c.loop-next.areas _ c.loop-next-test.true
    c.in_ok-add.ensures c.in_ok-add-2.ensures c.loop-next.invariant

pub returns : goal.returns
returns c = λ rs h.
    collects_whole c.deref-next-items.result.now _ c.loop-next.next-index (c.loop-next.collected, c.loop-next.areas)
    (c.deref-next-items.ensures.value ∙ c.in_ok-joined.ensures rs h) c.loop-next-test.false c.loop-next.invariant
