-- The nodes of a map: the distinct points where its chains begin or end, numbered from 0 from west to east, and where they
-- lie on one meridian from south to north.
use Rattle.std.specs.Prelude.{◌≡◌, ℕ, Some, Option, List, All, Contains}
use Rattle.std.specs.List.{AllPairs}
use Rattle.std.specs.Ordering.{int_cmp, ordering_then}
use Rattle.std.specs.declared.cmp.Ordering.{Ordering}
use Rattle.std.specs.declared.cmp.Ordering.TheVariants.{Less}
use Rattle.tl_geom.specs.declared.point.Point.{Point}
use Rattle.tl_map_county.specs.TheMap.{MapChain}
use Rattle.tl_map_county.specs.Darts.{dart_start}

-- the order of points: by x, and where that is one by y
abbrev pub point_cmp : Point → Point → Ordering
point_cmp p q = ordering_then (int_cmp p.x q.x) (int_cmp p.y q.y)

-- p comes before q
abbrev pub IsBefore : Point → Point → Type 0
IsBefore p q = point_cmp p q ≡ Less

-- the points where the numbered things start, each once and in order
pub record AreStarts (start : ℕ → Option Point) (nodes : List Point) : Type 0 where
  pub in_order : AllPairs IsBefore nodes
  pub each : (d : ℕ) (p : Point) → start d ≡ Some p → Contains nodes p
  pub no_other : All (λ p. (d : ℕ) × (start d ≡ Some p)) nodes

-- the nodes of the chains: the points where darts start, each once and in order
abbrev pub AreNodes : List MapChain → List Point → Type 0
AreNodes chains nodes = AreStarts (dart_start chains) nodes
