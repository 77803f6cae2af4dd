-- The box of a boundary, and the points outside of it.
use Rattle.std.specs.Prelude.{◌≡◌, ◌≢◌, ◌⊎◌, ℕ, Bool, ◌<ℤ◌, Some, List, Contains, slice_get}
use Rattle.tl_geom.specs.declared.point.Point.{Point}
use Rattle.tl_map_county.specs.declared.sides.Side.{Side}
use Rattle.tl_map_county.specs.TheMap.{MapChain}

-- p is a point of the boundary of such sides: of a chain that has one on its left and none on its right, or the other way
pub record IsOnBoundary (chains : List MapChain) (S : Side → Bool) (p : Point) : Type 0 where
  pub c : ℕ
  pub chain : MapChain
  pub is : slice_get chains c ≡ Some chain
  pub bounds : S chain.left ≢ S chain.right
  pub holds : Contains chain.points p

-- p is a point of a chain
pub record IsOfChains (chains : List MapChain) (p : Point) : Type 0 where
  pub c : ℕ
  pub chain : MapChain
  pub is : slice_get chains c ≡ Some chain
  pub holds : Contains chain.points p

-- q lies strictly west of all such points, east, south or north of them: outside of their bounding box
abbrev pub IsWestOf : (Point → Type 0) → Point → Type 0
IsWestOf P q = (p : Point) → P p → q.x <ℤ p.x

abbrev pub IsEastOf : (Point → Type 0) → Point → Type 0
IsEastOf P q = (p : Point) → P p → p.x <ℤ q.x

abbrev pub IsSouthOf : (Point → Type 0) → Point → Type 0
IsSouthOf P q = (p : Point) → P p → q.y <ℤ p.y

abbrev pub IsNorthOf : (Point → Type 0) → Point → Type 0
IsNorthOf P q = (p : Point) → P p → p.y <ℤ q.y

abbrev pub IsOutsideOfBox : (Point → Type 0) → Point → Type 0
IsOutsideOfBox P q = IsWestOf P q ⊎ IsEastOf P q ⊎ IsSouthOf P q ⊎ IsNorthOf P q
