-- Straight lines that meet no chain.
use Rattle.std.specs.Prelude.{ℕ, ℤ, List}
use Rattle.tl_geom.specs.declared.rational.Rational.{Rational}
use Rattle.tl_map_county.specs.TheMap.{MapChain}
use Rattle.tl_check_inside.specs.Inside.{IsPolygonCountAt}
use Rattle.tl_check_faces.specs.Facing.{IsOff, IsStrictlyBetween}

-- the straight line from p to q, both included, meets no chain
pub record IsClearLine (chains : List MapChain) (p q : Rational) : Type 0 where
  pub first : IsOff chains p
  pub last : IsOff chains q
  pub between : (r : Rational) → IsStrictlyBetween p q r → IsOff chains r

-- the count of each polygon stays along such lines
abbrev pub DoPolygonsStay : List MapChain → Type 0
DoPolygonsStay chains =
    (p q : Rational) → IsClearLine chains p q → (i : ℕ) (m : ℤ) → IsPolygonCountAt chains p i m → IsPolygonCountAt chains q i m
