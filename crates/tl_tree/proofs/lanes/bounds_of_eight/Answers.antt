use Rattle.std.proofs.Common.{arith}
use Rattle.tl_tree.proofs.Steps.{below-at}
use Rattle.tl_tree.proofs.lanes.bounds_of_eight.Goals as goal

pub bounds-requires : goal.bounds-requires
bounds-requires g c = below-at _ _ c.loop-k.k (omega arith) c.requires
