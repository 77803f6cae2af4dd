use Rattle.std.proofs.Common.{take}
use Rattle.tl_map.specs.Joined.Keeping.Joined.{AreApart}
use Rattle.tl_map.proofs.joined.join.shapes_apart.Given as goal

abbrev pub invariant-loop-told : goal.invariant-loop-told
invariant-loop-told l = AreApart l.records (take l.told-index l.records) l.apart
