-- What the sides of a map's chains name: the outside, or a polygon of the map.
use Rattle.std.specs.Prelude.{⊤, ℕ, ◌<◌}
use Rattle.tl_map_county.specs.declared.sides.ChainSides.{ChainSides}
use Rattle.tl_map_county.specs.declared.sides.Side.{Side}
use Rattle.tl_map_county.specs.declared.sides.Side.TheVariants.{Outside, Polygon}
use Rattle.tl_map_county.specs.TheMap.{MapChain}

-- the side is the outside, or one of so many polygons
abbrev pub IsSideAmong : ℕ → Side → Type 0
IsSideAmong n Outside = ⊤
IsSideAmong n (Polygon p) = p < n

-- both sides are
pub record AreSidesAmong (n : ℕ) (sides : ChainSides) : Type 0 where
  pub left : IsSideAmong n sides.left
  pub right : IsSideAmong n sides.right

-- both sides of the chain are
pub record HasSidesAmong (n : ℕ) (chain : MapChain) : Type 0 where
  pub left : IsSideAmong n chain.left
  pub right : IsSideAmong n chain.right
