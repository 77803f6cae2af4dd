-- Straight lines that meet no boundary.
use Rattle.std.specs.Prelude.{◌≡◌, ◌≢◌, ℕ, Bool, Some, List, slice_get}
use Rattle.tl_geom.specs.declared.rational.Rational.{Rational}
use Rattle.tl_map_county.specs.declared.sides.Side.{Side}
use Rattle.tl_map_county.specs.TheMap.{MapChain}
use Rattle.tl_check_planar.specs.Planar.{IsOnChain}
use Rattle.tl_check_faces.specs.Facing.{IsStrictlyBetween}

-- the rational point lies on no chain of the boundary of such sides: on none that has one on its left and none on its right, or the
-- other way round
abbrev pub IsOffBoundary : List MapChain → (Side → Bool) → Rational → Type 0
IsOffBoundary chains S r =
    (c : ℕ) (chain : MapChain) → slice_get chains c ≡ Some chain → S chain.left ≢ S chain.right → ¬ IsOnChain chain.points r

-- the straight line from p to q, both included, meets no such chain. It may cross chains that have such sides on both sides, or on none
pub record IsClearAlong (chains : List MapChain) (S : Side → Bool) (p q : Rational) : Type 0 where
  pub first : IsOffBoundary chains S p
  pub last : IsOffBoundary chains S q
  pub between : (r : Rational) → IsStrictlyBetween p q r → IsOffBoundary chains S r
