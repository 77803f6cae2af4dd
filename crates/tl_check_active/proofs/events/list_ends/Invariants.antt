use Rattle.tl_check_active.specs.Keeping.Ended.{AreListed}
use Rattle.tl_check_active.proofs.events.list_ends.Given as goal

abbrev pub invariant-loop-s : goal.invariant-loop-s
invariant-loop-s l = AreListed l.map.chains l.s l.is_begun l.ends.items
