-- Maps whose border can be spelt in records, so that it is read again: as those that records draw.
use Rattle.std.specs.Prelude.{◌<◌, ◌≤◌, ◌^◌, ◌-◌, ℕ, Some, length, map, sum_by}
use Rattle.std.specs.List.{AllByRecursion}
use Rattle.std.specs.List.Sorted.{IsStrictlyIncreasing}
use Rattle.tl_map_county.specs.Chains.{IsProperChain, tlids}
use Rattle.tl_map_county.specs.Limits.{most_chains, most_segments}
use Rattle.tl_map_county.specs.Sides.{IsSideAmong}
use Rattle.tl_map_county.specs.TheMap.{TheMap, MapChain}
use Rattle.tl_map_rules.specs.MapOf.{without_sides}
use Rattle.tigertopo_border.specs.Border.{inner, start_of, end_of}
use Rattle.tigertopo_border.specs.Spellable.{IsPlaced, IsPair}

-- a chain of a map with so many polygons: its TLID has ten digits, it has two points or more of which neighbours differ, and as many at most
-- as 999 records of type 2 have, its points are of the earth, and none but its ends lies where no shape pair can
pub record IsTellable (polygons : ℕ) (c : MapChain) : Type 0 where
  pub tlid : c.tlid < 10 ^ 10
  pub proper : IsProperChain c.points
  pub few : length c.points ≤ 9992
  pub start : IsPlaced (start_of c.points)
  pub end : IsPlaced (end_of c.points)
  pub between : AllByRecursion (λ p. IsPair (Some p)) (inner c.points)
  pub left : IsSideAmong polygons c.left
  pub right : IsSideAmong polygons c.right

-- a map of such chains, by rising TLID and not too many, whose polygons' points are of the earth
pub record IsReadable (m : TheMap) : Type 0 where
  pub chains : AllByRecursion (IsTellable (length m.polygons)) m.chains
  pub rising : IsStrictlyIncreasing (tlids (map without_sides m.chains))
  pub few_chains : length m.chains ≤ most_chains
  pub few_segments : sum_by (λ c. length c.points - 1) m.chains ≤ most_segments
  pub points : AllByRecursion (λ polygon. IsPlaced polygon.point) m.polygons
