-- Darts and walks of a map.
use Rattle.std.specs.Prelude.{ℕ, List, [], ◌∷◌, Option, Some, None}
use Rattle.std.specs.Option.{option_map_or}
use Rattle.tl_geom.specs.declared.point.Point.{Point}
use Rattle.tl_map_county.specs.declared.sides.Side.{Side}
use Rattle.tl_map_county.specs.declared.sides.Side.TheVariants.{Outside, Polygon}
use Rattle.tl_map_county.specs.TheMap.{MapChain}
use Rattle.tl_map_county.specs.Darts.{chain_of, is_along, directed, dart_left}

-- the points of a dart, from its start to its end
abbrev pub dart_points : List MapChain → ℕ → List Point
dart_points chains d = option_map_or (λ (c : MapChain). directed (is_along d) c.points) (chain_of chains d) []

-- the polygon on a side
abbrev pub polygon_on : Option Side → Option ℕ
polygon_on None = None
polygon_on (Some Outside) = None
polygon_on (Some (Polygon p)) = Some p

-- the polygon on the left of a walk
abbrev pub walk_polygon : List MapChain → List ℕ → Option ℕ
walk_polygon chains [] = None
walk_polygon chains (d ∷ rest) = polygon_on (dart_left chains d)
