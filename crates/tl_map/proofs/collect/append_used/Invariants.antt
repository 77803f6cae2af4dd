use Rattle.std.proofs.Common.{◌≡◌, ◌++◌, take}
use Rattle.tl_map_rules.specs.ChainsOf.{used, has_gap}
use Rattle.tl_map.proofs.collect.append_used.Given as goal
use Rattle.tl_map_rules.specs.Keeping.Pairs.{some_unused}

abbrev pub invariant-loop-pair : goal.invariant-loop-pair
invariant-loop-pair l = record {
  points : l.pool.items ≡ l.fn.pool.items ++ used (take l.pair-index l.pairs);
  ended : l.ended ≡ some_unused (take l.pair-index l.pairs);
  gap : l.gap ≡ has_gap (take l.pair-index l.pairs);
}
