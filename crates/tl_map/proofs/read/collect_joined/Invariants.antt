use Rattle.std.proofs.Common.{take}
use Rattle.tl_map.specs.Keeping.Gathering.{CollectsAll}
use Rattle.tl_map.proofs.read.collect_joined.Given as goal

abbrev pub invariant-loop-next : goal.invariant-loop-next
invariant-loop-next l = CollectsAll (take l.next-index l.next-items) (l.collected, l.areas)
