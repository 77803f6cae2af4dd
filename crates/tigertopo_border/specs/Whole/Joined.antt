-- Joined maps and their borders.
use Rattle.std.specs.Prelude.{◌≡◌, ℕ, ◌<◌, Some, List, length, slice_get}
use Rattle.tl_map_county.specs.declared.polygons.Polygon.{Polygon}
use Rattle.tl_map_county.specs.TheMap.{TheMap, MapChain}
use Rattle.tigertopo_border.specs.Whole.Told.{AreTold}
use Rattle.tigertopo_border.specs.Whole.Homes.{Homes, own, tells, name, is_border, IsToldByParts}

-- polygon p of part k is in the joined map
pub record IsPolygonOf (homes : Homes) (joined : TheMap) (k p : ℕ) (polygon : Polygon) : Type 0 where
  pub place : ℕ
  pub is : slice_get joined.polygons place ≡ Some polygon
  pub part : homes.part place ≡ k
  pub number : homes.number place ≡ p

-- polygon p of the joined map is that of its part
pub record IsFromPart (homes : Homes) (parts : List TheMap) (p : ℕ) (polygon : Polygon) : Type 0 where
  pub part : TheMap
  pub is : slice_get parts (homes.part p) ≡ Some part
  pub polygon_is : slice_get part.polygons (homes.number p) ≡ Some polygon

-- the map is joined from the parts: each part tells its own chains as it names them, a chain that two parts tell has the polygons of both,
-- and the polygons are those of all parts
pub record IsJoined (homes : Homes) (parts : List TheMap) (joined : TheMap) : Type 0 where
  pub apart : (p q : ℕ) → homes.part p ≡ homes.part q → homes.number p ≡ homes.number q → p ≡ q
  pub each : (k : ℕ) (part : TheMap) → slice_get parts k ≡ Some part → AreTold (own homes k) (tells homes k) joined.chains part.chains
  pub told : (c : ℕ) (chain : MapChain) → slice_get joined.chains c ≡ Some chain → IsToldByParts homes (length parts) chain
  pub known : (k p : ℕ) (part : TheMap) (polygon : Polygon) → slice_get parts k ≡ Some part → slice_get part.polygons p ≡ Some polygon →
      IsPolygonOf homes joined k p polygon
  pub no_other : (p : ℕ) (polygon : Polygon) → slice_get joined.polygons p ≡ Some polygon → IsFromPart homes parts p polygon

-- the point of polygon k is that of a polygon of part k
pub record IsPointOfPart (homes : Homes) (joined : TheMap) (k : ℕ) (polygon : Polygon) : Type 0 where
  pub place : ℕ
  pub other : Polygon
  pub is : slice_get joined.polygons place ≡ Some other
  pub part : homes.part place ≡ k
  pub point : polygon.point ≡ other.point

-- the border between the parts: the chains whose sides aren't both of one part, on which each part is one polygon; and these polygons, each
-- with the point of any of the part's
pub record IsBorder (homes : Homes) (joined border : TheMap) : Type 0 where
  pub chains : AreTold (name homes) (is_border homes) joined.chains border.chains
  pub points : (k : ℕ) (polygon : Polygon) → slice_get border.polygons k ≡ Some polygon → IsPointOfPart homes joined k polygon
  pub all : (p : ℕ) (polygon : Polygon) → slice_get joined.polygons p ≡ Some polygon → homes.part p < length border.polygons
