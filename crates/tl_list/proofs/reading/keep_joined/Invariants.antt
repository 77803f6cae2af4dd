use Rattle.std.proofs.Common.{take}
use Rattle.tl_map.specs.Collecting.{HasCollected}
use Rattle.tl_list.proofs.reading.keep_joined.Given as goal

abbrev pub invariant-loop-next : goal.invariant-loop-next
invariant-loop-next l = HasCollected (take l.next-index l.next-items) l.kept
