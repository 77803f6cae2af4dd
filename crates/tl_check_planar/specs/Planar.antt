-- Planar chains: no rational point lies on two chains but an end of both, and no chain meets itself but at its ends.
use Rattle.std.specs.Prelude.{◌≡◌, ◌≢◌, ◌⊎◌, ℕ, ◌+◌, ◌-◌, ◌<◌, Some, List, length, slice_get}
use Rattle.tl_geom.specs.declared.point.Point.{Point}
use Rattle.tl_geom.specs.declared.rational.Rational.{Rational}
use Rattle.tl_geom.specs.declared.segment.Segment.{Segment}
use Rattle.tl_geom.specs.Plane.{IsOn, IsSame, whole, end_a, end_b}
use Rattle.tl_map_county.specs.TheMap.{MapChain}

-- the rational point is point k of a chain's points
pub record IsVertex (points : List Point) (k : ℕ) (r : Rational) : Type 0 where
  pub point : Point
  pub is : slice_get points k ≡ Some point
  pub same : IsSame r (whole point)

-- the rational point lies on the segment from point k to the next
pub record IsOnSegment (points : List Point) (k : ℕ) (r : Rational) : Type 0 where
  pub segment : Segment
  pub from : slice_get points k ≡ Some (end_a segment)
  pub to : slice_get points (k + 1) ≡ Some (end_b segment)
  pub on : IsOn segment r

-- the rational point lies on the chain: on one of its segments
abbrev pub IsOnChain : List Point → Rational → Type 0
IsOnChain points r = (k : ℕ) × IsOnSegment points k r

-- the rational point is the chain's first or last
abbrev pub IsChainEnd : List Point → Rational → Type 0
IsChainEnd points r = IsVertex points 0 r ⊎ IsVertex points (length points - 1) r

-- two chains share nothing but ends of both
abbrev pub ShareEndsAlone : (points others : List Point) → Type 0
ShareEndsAlone points others =
    (r : Rational) → IsOnChain points r → IsOnChain others r → IsChainEnd points r × IsChainEnd others r

-- segment j follows segment i, and the rational point is the vertex between them
pub record IsBetweenSegments (points : List Point) (i j : ℕ) (r : Rational) : Type 0 where
  pub follows : j ≡ i + 1
  pub vertex : IsVertex points j r

-- the chain ends where it starts, segment i is its first and segment j its last, and the rational point is that start
pub record IsClosingPoint (points : List Point) (i j : ℕ) (r : Rational) : Type 0 where
  pub first : i ≡ 0
  pub last : j + 2 ≡ length points
  pub closed : slice_get points 0 ≡ slice_get points (j + 1)
  pub start : IsVertex points 0 r

-- segments i and j of a chain, i below j, may share the rational point
abbrev pub MayShareWithin : List Point → (i j : ℕ) → Rational → Type 0
MayShareWithin points i j r = IsBetweenSegments points i j r ⊎ IsClosingPoint points i j r

-- the chain meets itself only where its segments follow one another, and at its ends if it is closed
abbrev pub IsSimple : List Point → Type 0
IsSimple points =
    (i j : ℕ) (r : Rational) → i < j → IsOnSegment points i r → IsOnSegment points j r → MayShareWithin points i j r

-- every two different chains share ends alone, and every chain is simple
pub record IsPlanar (chains : List MapChain) : Type 0 where
  pub apart : (c d : ℕ) (one other : MapChain) → c ≢ d → slice_get chains c ≡ Some one → slice_get chains d ≡ Some other →
      ShareEndsAlone one.points other.points
  pub simple : (c : ℕ) (chain : MapChain) → slice_get chains c ≡ Some chain → IsSimple chain.points
