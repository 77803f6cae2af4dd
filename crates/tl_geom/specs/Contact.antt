-- What two segments share.
use Rattle.std.specs.Prelude.{◌≡◌, ◌⊎◌, ◌↔◌, pos, ◌+ℤ◌, unsigned_abs}
use Rattle.tl_geom.specs.declared.point.Point.{Point}
use Rattle.tl_geom.specs.declared.rational.Rational.{Rational}
use Rattle.tl_geom.specs.declared.segment.Segment.{Segment}
use Rattle.tl_geom.specs.declared.shared.Contact.{Contact}
use Rattle.tl_geom.specs.declared.shared.Contact.TheVariants.{Apart, AtEnds, Crossing}
use Rattle.tl_geom.specs.Plane.{IsOn, IsSame, whole, step_cross}

-- the rational point lies on both segments
pub record IsShared (s t : Segment) (r : Rational) : Type 0 where
  pub on_first : IsOn s r
  pub on_second : IsOn t r

-- the segments share this rational point and no other
pub record IsOnlyShared (s t : Segment) (r : Rational) : Type 0 where
  pub shared : IsShared s t r
  pub only : (q : Rational) → IsShared s t q → IsSame q r

-- the segments share exactly the points of a segment
pub record IsOverlap (s t overlap : Segment) : Type 0 where
  pub points : (r : Rational) → IsShared s t r ↔ IsOn overlap r

-- the rational point is an end of the segment
abbrev pub IsEnd : Segment → Rational → Type 0
IsEnd s r = IsSame r (whole s.a) ⊎ IsSame r (whole s.b)

-- the segments share no rational point
abbrev pub AreApart : (s t : Segment) → Type 0
AreApart s t = (r : Rational) → ¬ IsShared s t r

-- the segments share this point alone, and it is an end of both
pub record MeetAtEnds (s t : Segment) (p : Point) : Type 0 where
  pub only : IsOnlyShared s t (whole p)
  pub first_end : IsEnd s (whole p)
  pub second_end : IsEnd t (whole p)

-- the middle of an overlap, as the sum of its ends over 2
pub record IsMiddle (s t : Segment) (r : Rational) : Type 0 where
  pub overlap : Segment
  pub is_overlap : IsOverlap s t overlap
  pub x : r.x ≡ overlap.a.x +ℤ overlap.b.x
  pub y : r.y ≡ overlap.a.y +ℤ overlap.b.y
  pub d : r.d ≡ pos 2

-- an end of one segment inside the other, over 1
pub record IsTouch (s t : Segment) (r : Rational) : Type 0 where
  pub only : IsOnlyShared s t r
  pub one_end : (IsEnd s r × ¬ IsEnd t r) ⊎ (IsEnd t r × ¬ IsEnd s r)
  pub d : r.d ≡ pos 1

-- a point inside both segments, over the absolute cross product of their directions
pub record IsProper (s t : Segment) (r : Rational) : Type 0 where
  pub only : IsOnlyShared s t r
  pub no_first_end : ¬ IsEnd s r
  pub no_second_end : ¬ IsEnd t r
  pub d : r.d ≡ pos (unsigned_abs (step_cross s.a s.b t.a t.b))

-- the rational point by which a crossing is told
abbrev pub IsCrossing : (s t : Segment) → Rational → Type 0
IsCrossing s t r = IsMiddle s t r ⊎ (IsTouch s t r ⊎ IsProper s t r)

-- the rational point is an end of both segments
abbrev pub AreBothEnded : (s t : Segment) → Rational → Type 0
AreBothEnded s t r = IsEnd s r × IsEnd t r

-- a fact of the point of a crossing
abbrev pub IfCrossing : Contact → (Rational → Type 0) → Type 0
IfCrossing Apart P = Unit {0}
IfCrossing (AtEnds p) P = Unit {0}
IfCrossing (Crossing r) P = P r

-- what each answer says of the segments
abbrev pub IsContact : (s t : Segment) → Contact → Type 0
IsContact s t Apart = AreApart s t
IsContact s t (AtEnds p) = MeetAtEnds s t p
IsContact s t (Crossing r) = IsCrossing s t r
