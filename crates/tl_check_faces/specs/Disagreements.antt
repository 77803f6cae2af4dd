-- Faces that disagree: places from which two segments face one another, or one faces the outside, and what is named there.
use Rattle.std.specs.Prelude.{◌≡◌, ◌≢◌, ℤ, pos, ◌+ℤ◌, ◌-ℤ◌, ◌*ℤ◌, ◌<ℤ◌, List}
use Rattle.tl_geom.specs.declared.rational.Rational.{Rational}
use Rattle.tl_geom.specs.declared.segment.Segment.{Segment}
use Rattle.tl_map_county.specs.declared.sides.Side.{Side}
use Rattle.tl_map_county.specs.declared.sides.Side.TheVariants.{Outside}
use Rattle.tl_map_county.specs.TheMap.{MapChain}
use Rattle.tl_check_planar.specs.ByHeight.Heights.{height, height_of, low_end, high_end}
use Rattle.tl_check_faces.specs.Facing.{IsOfChain, IsStrictlyOn, IsClearBetween, IsClearFrom, IsSideToward, step_x, step_y}
use Rattle.tl_check_faces.specs.Lists.{west_side, east_side}

-- a side that a chain names along one of its segments, and the place from which it is looked that way
pub record FacingSide : Type 0 where
  pub chain : MapChain
  pub segment : Segment
  pub place : Rational
  pub side : Side

-- the same from another place
abbrev pub from_place : FacingSide → Rational → FacingSide
from_place one p = record one { place = p }

-- what a segment of a chain names to the west of a place, along lines of one height, and what it names to the east
abbrev pub facing_west : ℤ → MapChain → Segment → Rational → FacingSide
facing_west K chain u p = record { chain = chain; segment = u; place = p; side = west_side K chain u }

abbrev pub facing_east : ℤ → MapChain → Segment → Rational → FacingSide
facing_east K chain u p = record { chain = chain; segment = u; place = p; side = east_side K chain u }

-- two segments face one another, from points strictly within them with nothing between, and name different sides there
pub record IsFaceDisagreement (chains : List MapChain) (one other : FacingSide) : Type 0 where
  pub first : IsOfChain chains one.chain one.segment
  pub last : IsOfChain chains other.chain other.segment
  pub on_first : IsStrictlyOn one.segment one.place
  pub on_last : IsStrictlyOn other.segment other.place
  pub clear : IsClearBetween chains one.place other.place
  pub from_first : IsSideToward one.chain one.segment (step_x one.place other.place) (step_y one.place other.place) one.side
  pub from_last : IsSideToward other.chain other.segment (step_x other.place one.place) (step_y other.place one.place) other.side
  pub differ : one.side ≢ other.side

-- nothing lies on the ray in the direction (x, y) from a point strictly within a segment, and it doesn't name the outside there
pub record IsOutwardDisagreement (chains : List MapChain) (one : FacingSide) (x y : ℤ) : Type 0 where
  pub of : IsOfChain chains one.chain one.segment
  pub on : IsStrictlyOn one.segment one.place
  pub clear : IsClearFrom chains one.place x y
  pub from : IsSideToward one.chain one.segment x y one.side
  pub differs : one.side ≢ Outside

-- ---- places strictly within a slab

-- the height of the rational point is above n, and below the next
pub record IsInSlab (K n : ℤ) (p : Rational) : Type 0 where
  pub above : (p.d *ℤ n) <ℤ height_of K p
  pub below : height_of K p <ℤ (p.d *ℤ (n +ℤ pos 1))

-- two rational points have one height
abbrev pub HaveOneHeight : ℤ → (p q : Rational) → Type 0
HaveOneHeight K p q = height_of K p *ℤ q.d ≡ height_of K q *ℤ p.d

-- how far a segment rises, and how far it has risen midway between height n and the next, both twice
abbrev pub twice_rise : ℤ → Segment → ℤ
twice_rise K u = pos 2 *ℤ (height K (high_end K u) -ℤ height K (low_end K u))

abbrev pub twice_risen : (K n : ℤ) → Segment → ℤ
twice_risen K n u = pos 2 *ℤ n +ℤ pos 1 -ℤ pos 2 *ℤ height K (low_end K u)

-- the segment's place midway between height n and the next: so many parts of the way from its low end to its high end
pub record IsMidway (K n : ℤ) (u : Segment) (p : Rational) : Type 0 where
  pub d : p.d ≡ twice_rise K u
  pub x : p.x ≡ p.d *ℤ (low_end K u).x +ℤ twice_risen K n u *ℤ ((high_end K u).x -ℤ (low_end K u).x)
  pub y : p.y ≡ p.d *ℤ (low_end K u).y +ℤ twice_risen K n u *ℤ ((high_end K u).y -ℤ (low_end K u).y)
