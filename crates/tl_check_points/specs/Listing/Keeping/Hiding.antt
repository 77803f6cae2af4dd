-- Chains whose sides name no polygon that is hidden, put together one by one.
use Rattle.std.specs.Prelude.{◌≡◌, ℕ, ◌+◌, List, length, take, All}
use Rattle.tl_geom.specs.declared.point.Point.{Point}
use Rattle.tl_map_county.specs.declared.chains.ChainRow.{ChainRow}
use Rattle.tl_map_county.specs.declared.sides.ChainSides.{ChainSides}
use Rattle.tl_map_county.specs.Chains.{CompleteChain, IsProperChain}
use Rattle.tl_map_county.specs.Rows.{IsTable, chains_in, sided}
use Rattle.tl_map_county.specs.Sides.{AreSidesAmong}
use Rattle.tl_map_county.specs.Segments.{segments_before}
use Rattle.tl_map_county.specs.TheMap.{TheMap}
use Rattle.tl_check_points.specs.Listing.Hidden.{AreAlikeBut}

-- the first c chains of the map are put together
pub record ArePartsBefore (Hidden : ℕ → Type 0) (m : TheMap) (c : ℕ) (points : List Point) (rows : List ChainRow) (sides : List ChainSides) : Type 0 where
  pub table : IsTable points rows
  pub count : length rows ≡ c
  pub long : length points ≡ segments_before m.chains c + c
  pub paired : length sides ≡ c
  pub proper : All (λ (chain : CompleteChain). IsProperChain chain.points) (chains_in points rows)
  pub among : All (AreSidesAmong (length m.polygons)) sides
  pub alike : AreAlikeBut Hidden (take c m.chains) (sided (chains_in points rows) sides)
