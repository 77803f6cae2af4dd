-- The points that two segments may share, as a list of two places at most.
use Rattle.std.specs.Prelude.{◌⊎◌, Option, Some, None}
use Rattle.tl_geom.specs.declared.point.Point.{Point}
use Rattle.tl_geom.specs.declared.rational.Rational.{Rational}
use Rattle.tl_geom.specs.declared.segment.Segment.{Segment}
use Rattle.tl_geom.specs.Plane.{IsSame, whole}
use Rattle.tl_geom.specs.Contact.{IsShared}
use Rattle.tl_check_planar.specs.declared.allowed.Allowed.{Allowed}
use Rattle.tl_check_planar.specs.Searching.{IsContactPoint}

-- the rational point is at the point, if there is one
abbrev pub IsAt : Option Point → Rational → Type 0
IsAt None r = ⊥
IsAt (Some p) r = IsSame r (whole p)

-- the rational point is at one of the two
abbrev pub IsOneOf : Allowed → Rational → Type 0
IsOneOf allowed r = IsAt allowed.one r ⊎ IsAt allowed.other r

-- two segments share the rational point, and it isn't one of the two; it is the point of their contact, or that one is
-- allowed
pub record IsRefused (s t : Segment) (allowed : Allowed) (r : Rational) : Type 0 where
  pub shared : IsShared s t r
  pub refused : ¬ IsOneOf allowed r
  pub by : IsContactPoint s t r ⊎ ((q : Rational) × IsContactPoint s t q × IsOneOf allowed q)

-- a shared point that is refused, or that there is none
abbrev pub MayRefuse : (s t : Segment) → Allowed → Option Rational → Type 0
MayRefuse s t allowed None = (r : Rational) → IsShared s t r → IsOneOf allowed r
MayRefuse s t allowed (Some r) = IsRefused s t allowed r
