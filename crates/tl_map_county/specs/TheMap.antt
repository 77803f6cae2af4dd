-- The map of a county: chains with both sides, polygons, and landmarks with their polygons.
use Rattle.std.specs.Prelude.{◌≡◌, ℕ, Option, Some, List}
use Rattle.tl_geom.specs.declared.point.Point.{Point}
use Rattle.tl_map_county.specs.declared.polygons.Polygon.{Polygon}
use Rattle.tl_map_county.specs.declared.sides.Side.{Side}

-- a chain of the map: its TLID, its points from start to end, what lies on its left and on its right, and the zero-cell
-- ids of its start and its end where they are read and given
pub record MapChain : Type 0 where
  pub tlid : ℕ
  pub points : List Point
  pub left : Side
  pub right : Side
  pub start_cell : Option ℕ
  pub end_cell : Option ℕ

-- a landmark of the map: its LAND, its point where it has one, and the numbers of the polygons linked to it
pub record MapLandmark : Type 0 where
  pub land : ℕ
  pub point : Option Point
  pub polygons : List ℕ

-- a map, and how many lines were passed over where it was read
pub record TheMap : Type 0 where
  pub chains : List MapChain
  pub polygons : List Polygon
  pub landmarks : List MapLandmark
  pub skipped : ℕ

-- a look-up gives this chain
pub record IsChain (found : Option MapChain) (tlid : ℕ) (points : List Point) (left right : Side) : Type 0 where
  pub chain : MapChain
  pub is : found ≡ Some chain
  pub tlid_is : tlid ≡ chain.tlid
  pub points_are : points ≡ chain.points
  pub left_is : left ≡ chain.left
  pub right_is : right ≡ chain.right
