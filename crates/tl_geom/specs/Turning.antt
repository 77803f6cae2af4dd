-- Directions about a point, and the turn from one to another.
use Rattle.std.specs.Prelude.{◌≡◌, ◌≢◌, ◌⊎◌, ℤ, pos, ◌+ℤ◌, ◌*ℤ◌, ◌<ℤ◌}
use Rattle.tl_geom.specs.declared.direction.Direction.{Direction}
use Rattle.tl_geom.specs.Plane.{cross}

-- the cross product of two directions: above 0 where the second is to the left of the first
abbrev pub cross_of : Direction → Direction → ℤ
cross_of u v = cross u.x u.y v.x v.y

-- the inner product of two directions: above 0 where they are less than a right angle apart
abbrev pub dot_of : Direction → Direction → ℤ
dot_of u v = u.x *ℤ v.x +ℤ u.y *ℤ v.y

-- both are one direction
pub record IsOneDirection (u v : Direction) : Type 0 where
  pub parallel : cross_of u v ≡ pos 0
  pub same_way : pos 0 <ℤ dot_of u v

-- the two directions are opposite
pub record AreOpposite (u v : Direction) : Type 0 where
  pub parallel : cross_of u v ≡ pos 0
  pub other_way : dot_of u v <ℤ pos 0

-- v lies strictly within the turn counter-clockwise from u to w
pub data IsWithin (u w v : Direction) : Type 0 where
  below_half : pos 0 <ℤ cross_of u w → pos 0 <ℤ cross_of u v → pos 0 <ℤ cross_of v w → IsWithin u w v
  above_half : cross_of u w <ℤ pos 0 → (pos 0 <ℤ cross_of u v) ⊎ (pos 0 <ℤ cross_of v w) → IsWithin u w v
  half : AreOpposite u w → pos 0 <ℤ cross_of u v → IsWithin u w v
  full : IsOneDirection u w → ¬ IsOneDirection u v → IsWithin u w v

-- a step to the east is no step of nothing
pub one_apart : pos 1 ≢ pos 0
one_apart e = cc

-- the direction to the east
abbrev pub east : Direction
east = record { x = pos 1; y = pos 0; nonzero = λ e. absurd (one_apart e) }

-- u comes before v in a turn counter-clockwise from east: v is not east, and u is east or within the turn from east to v
pub record IsBelow (u v : Direction) : Type 0 where
  pub not_east : ¬ IsOneDirection east v
  pub before : IsOneDirection east u ⊎ IsWithin east v u

-- the direction is to the east, or to the north of the line from west to east
abbrev pub IsFirstHalf : Direction → Type 0
IsFirstHalf u = (pos 0 <ℤ u.y) ⊎ ((u.y ≡ pos 0) × (pos 0 <ℤ u.x))

-- the direction is to the west, or to the south of that line
abbrev pub IsSecondHalf : Direction → Type 0
IsSecondHalf u = (u.y <ℤ pos 0) ⊎ ((u.y ≡ pos 0) × (u.x <ℤ pos 0))
