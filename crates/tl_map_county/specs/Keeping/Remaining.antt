-- Kept on the way: chains that are put together one by one.
use Rattle.std.specs.Prelude.{◌≡◌, ℕ, ◌+◌, ◌≤◌, Bool, List, [], ◌∷◌, ◌++◌, length, take, All}
use Rattle.tl_geom.specs.declared.point.Point.{Point}
use Rattle.tl_map_county.specs.declared.chains.ChainRow.{ChainRow}
use Rattle.tl_map_county.specs.declared.sides.ChainSides.{ChainSides}
use Rattle.tl_map_county.specs.Chains.{CompleteChain, IsProperChain, segment_count}
use Rattle.tl_map_county.specs.Rows.{IsTable, chains_in, sided}
use Rattle.tl_map_county.specs.Sides.{AreSidesAmong}
use Rattle.tl_map_county.specs.Remaining.{remaining}

-- one chain stands behind those that there were
pub record IsOneMore (chain : CompleteChain) (old_points : List Point) (old_rows : List ChainRow) (points : List Point) (rows : List ChainRow) : Type 0 where
  pub table : IsTable points rows
  pub chains : chains_in points rows ≡ chains_in old_points old_rows ++ chain ∷ []
  pub count : length rows ≡ length old_rows + 1

-- what remains of the first c chains, whose sides are among n polygons
pub record AreRemaining (marks : List Bool) (cs : List CompleteChain) (ss : List ChainSides) (n c : ℕ) (points : List Point) (rows : List ChainRow) (rest : List ChainSides) : Type 0 where
  pub table : IsTable points rows
  pub few : length rows ≤ c
  pub room : segment_count (chains_in points rows) ≤ segment_count (take c cs)
  pub proper : All (λ (chain : CompleteChain). IsProperChain chain.points) (chains_in points rows)
  pub among : All (AreSidesAmong n) rest
  pub paired : length rest ≡ length rows
  pub are : sided (chains_in points rows) rest ≡ remaining marks (take c (sided cs ss))

-- what remains of all of them
pub record AreAllRemaining (marks : List Bool) (cs : List CompleteChain) (ss : List ChainSides) (n : ℕ) (chains : List CompleteChain) (sides : List ChainSides) : Type 0 where
  pub proper : All (λ (chain : CompleteChain). IsProperChain chain.points) chains
  pub among : All (AreSidesAmong n) sides
  pub paired : length sides ≡ length chains
  pub are : sided chains sides ≡ remaining marks (sided cs ss)
