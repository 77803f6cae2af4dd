use Rattle.std.proofs.Common.{◌≡◌, ◌++◌, List, drop}
use Rattle.tl_geom.specs.declared.point.Point.{Point}
use Rattle.tl_map.proofs.join.append_distinct.Given as goal
use Rattle.tl_map_rules.specs.Keeping.Pairs.{dedup_after}

abbrev pub invariant-loop-point : goal.invariant-loop-point
invariant-loop-point l = (rest : List Point) → l.points.items ++ dedup_after l.last (drop l.point-index l.more ++ rest) ≡ l.fn.points.items ++ dedup_after l.fn.last (l.more ++ rest)
