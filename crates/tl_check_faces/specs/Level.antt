-- What stands side by side along a line of one height and names different sides there: two segments that face one another, or one that
-- faces the outside. Heights are K y - x, so that a line of one height runs to the east, and hardly to the north. All points of chains have
-- whole heights, so a line of a height between two whole ones runs through none of these.
use Rattle.std.specs.Prelude.{◌≢◌, ℕ, ℤ, pos, ◌-ℤ◌, ◌<ℤ◌, Option, None, Some, List}
use Rattle.tl_geom.specs.declared.rational.Rational.{Rational}
use Rattle.tl_geom.specs.declared.segment.Segment.{Segment}
use Rattle.tl_geom.specs.Plane.{IsOn}
use Rattle.tl_map_county.specs.declared.sides.Side.TheVariants.{Outside}
use Rattle.tl_map_county.specs.TheMap.{MapChain}
use Rattle.tl_check_planar.specs.ByHeight.Neighbours.{IsNumbered}
use Rattle.tl_check_faces.specs.Facing.{IsClearBetween, IsClearFrom, step_x}
use Rattle.tl_check_faces.specs.Lists.{west_side, east_side}
use Rattle.tl_check_faces.specs.Disagreements.{IsInSlab, HaveOneHeight}

-- segment s faces segment t, which is east of it, along a line of one height above n and below the next: nothing lies between p of the one
-- and q of the other. What s names to the east isn't what t names to the west
pub record DifferFacing (K n : ℤ) (chains : List MapChain) (s t : ℕ) : Type 0 where
  pub u : Segment
  pub w : Segment
  pub western : IsNumbered chains s u
  pub eastern : IsNumbered chains t w
  pub p : Rational
  pub q : Rational
  pub on_west : IsOn u p
  pub on_east : IsOn w q
  pub within : IsInSlab K n p
  pub level : HaveOneHeight K p q
  pub eastward : pos 0 <ℤ step_x p q
  pub clear : IsClearBetween chains p q
  pub differ : east_side K western.joins.chain u ≢ west_side K eastern.joins.chain w

-- nothing lies east of segment s along such a line, and it doesn't name the outside there
pub record DiffersEastward (K n : ℤ) (chains : List MapChain) (s : ℕ) : Type 0 where
  pub u : Segment
  pub is : IsNumbered chains s u
  pub p : Rational
  pub on : IsOn u p
  pub within : IsInSlab K n p
  pub clear : IsClearFrom chains p K (pos 1)
  pub differs : east_side K is.joins.chain u ≢ Outside

-- nothing lies west of segment t along such a line, and it doesn't name the outside there
pub record DiffersWestward (K n : ℤ) (chains : List MapChain) (t : ℕ) : Type 0 where
  pub u : Segment
  pub is : IsNumbered chains t u
  pub p : Rational
  pub on : IsOn u p
  pub within : IsInSlab K n p
  pub clear : IsClearFrom chains p (pos 0 -ℤ K) (pos 0 -ℤ pos 1)
  pub differs : west_side K is.joins.chain u ≢ Outside

-- what stands west and what stands east name different sides there: a segment, or none and so the outside
abbrev pub DifferAlong : (K n : ℤ) → List MapChain → (west east : Option ℕ) → Type 0
DifferAlong K n chains (Some s) (Some t) = DifferFacing K n chains s t
DifferAlong K n chains (Some s) None = DiffersEastward K n chains s
DifferAlong K n chains None (Some t) = DiffersWestward K n chains t
DifferAlong K n chains None None = ⊥
