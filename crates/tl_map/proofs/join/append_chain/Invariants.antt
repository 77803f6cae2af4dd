use Rattle.std.proofs.Common.{◌≡◌, ◌++◌, ◌∷◌, List, drop}
use Rattle.std.specs.List.{flat_map}
use Rattle.tl_geom.specs.declared.point.Point.{Point}
use Rattle.tl_map_rules.specs.Listing.Shapes.{entry_points}
use Rattle.tl_map.proofs.join.append_chain.Given as goal
use Rattle.tl_map_rules.specs.Keeping.Pairs.{dedup_after}

abbrev pub invariant-loop-shape : goal.invariant-loop-shape
invariant-loop-shape l = (rest : List Point) → l.points.items ++ dedup_after l.last (flat_map (entry_points l.pool) (drop l.shape-index l.run) ++ rest) ≡ l.fn.points.items ++ l.chain.from ∷ dedup_after l.chain.from (flat_map (entry_points l.pool) l.run ++ rest)
