-- Segments that face one another, and sides that agree there.
use Rattle.std.specs.Prelude.{◌≡◌, ◌⊎◌, ℕ, ◌+◌, ℤ, pos, ◌+ℤ◌, ◌-ℤ◌, ◌*ℤ◌, ◌<ℤ◌, Some, List, slice_get}
use Rattle.tl_geom.specs.declared.rational.Rational.{Rational}
use Rattle.tl_geom.specs.declared.segment.Segment.{Segment}
use Rattle.tl_geom.specs.Plane.{IsOn, cross, end_a, end_b}
use Rattle.tl_geom.specs.Contact.{IsEnd}
use Rattle.tl_map_county.specs.declared.sides.Side.{Side}
use Rattle.tl_map_county.specs.declared.sides.Side.TheVariants.{Outside}
use Rattle.tl_map_county.specs.TheMap.{MapChain}
use Rattle.tl_check_planar.specs.Planar.{IsOnChain}

-- the segment is one of this chain, which is one of the chains
pub record IsOfChain (chains : List MapChain) (chain : MapChain) (u : Segment) : Type 0 where
  pub c : ℕ
  pub k : ℕ
  pub is : slice_get chains c ≡ Some chain
  pub from : slice_get chain.points k ≡ Some (end_a u)
  pub to : slice_get chain.points (k + 1) ≡ Some (end_b u)

-- the rational point lies on no chain
abbrev pub IsOff : List MapChain → Rational → Type 0
IsOff chains r = (c : ℕ) (chain : MapChain) → slice_get chains c ≡ Some chain → ¬ IsOnChain chain.points r

-- it lies on the segment, and is no end of it
pub record IsStrictlyOn (u : Segment) (r : Rational) : Type 0 where
  pub on : IsOn u r
  pub no_end : ¬ IsEnd u r

-- r lies strictly between p and q: it is their mean, by weights above 0
pub record IsStrictlyBetween (p q r : Rational) : Type 0 where
  pub m : ℤ
  pub n : ℤ
  pub some_p : pos 0 <ℤ m
  pub some_q : pos 0 <ℤ n
  pub x : r.x *ℤ (m *ℤ p.d +ℤ n *ℤ q.d) ≡ (m *ℤ p.x +ℤ n *ℤ q.x) *ℤ r.d
  pub y : r.y *ℤ (m *ℤ p.d +ℤ n *ℤ q.d) ≡ (m *ℤ p.y +ℤ n *ℤ q.y) *ℤ r.d

-- r lies on the ray from p in the direction (x, y), and isn't p: it is p and n of m parts of that direction, over p's d
pub record IsOnRay (p : Rational) (x y : ℤ) (r : Rational) : Type 0 where
  pub m : ℤ
  pub n : ℤ
  pub some_m : pos 0 <ℤ m
  pub some_n : pos 0 <ℤ n
  pub at_x : r.x *ℤ (m *ℤ p.d) ≡ (m *ℤ p.x +ℤ n *ℤ x) *ℤ r.d
  pub at_y : r.y *ℤ (m *ℤ p.d) ≡ (m *ℤ p.y +ℤ n *ℤ y) *ℤ r.d

-- nothing lies between p and q
abbrev pub IsClearBetween : List MapChain → (p q : Rational) → Type 0
IsClearBetween chains p q = (r : Rational) → IsStrictlyBetween p q r → IsOff chains r

-- nothing lies on the ray from p in the direction (x, y)
abbrev pub IsClearFrom : List MapChain → Rational → (x y : ℤ) → Type 0
IsClearFrom chains p x y = (r : Rational) → IsOnRay p x y r → IsOff chains r

-- the side that a segment of a chain has in the direction (x, y): the chain's left where that is to the left of the segment, its
-- right where it is to the right; along the segment there is none
abbrev pub IsSideToward : MapChain → Segment → (x y : ℤ) → Side → Type 0
IsSideToward chain u x y side =
    ((pos 0 <ℤ cross (u.b.x -ℤ u.a.x) (u.b.y -ℤ u.a.y) x y) × (side ≡ chain.left))
    ⊎ ((cross (u.b.x -ℤ u.a.x) (u.b.y -ℤ u.a.y) x y <ℤ pos 0) × (side ≡ chain.right))

-- the direction from p to q, times both d
abbrev pub step_x : (p q : Rational) → ℤ
step_x p q = q.x *ℤ p.d -ℤ p.x *ℤ q.d

abbrev pub step_y : (p q : Rational) → ℤ
step_y p q = q.y *ℤ p.d -ℤ p.y *ℤ q.d

-- faces agree: two segments that face one another, from points strictly within them with nothing between, name one side there;
-- and where nothing lies on a ray from a point strictly within a segment, the segment names the outside there
pub record FacesAgree (chains : List MapChain) : Type 0 where
  pub facing : (one other : MapChain) (u w : Segment) (p q : Rational) (side opposite : Side) → IsOfChain chains one u → IsOfChain chains other w →
      IsStrictlyOn u p → IsStrictlyOn w q → IsClearBetween chains p q →
      IsSideToward one u (step_x p q) (step_y p q) side → IsSideToward other w (step_x q p) (step_y q p) opposite → side ≡ opposite
  pub outward : (chain : MapChain) (u : Segment) (p : Rational) (x y : ℤ) (side : Side) → IsOfChain chains chain u →
      IsStrictlyOn u p → IsClearFrom chains p x y → IsSideToward chain u x y side → side ≡ Outside
