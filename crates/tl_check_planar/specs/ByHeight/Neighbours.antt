-- Segments side by side: which of two is west of the other, and what is tested of neighbours.
use Rattle.std.specs.Prelude.{◌⊎◌, ℕ, ℤ, pos, ◌≤ℤ◌, List, [], ◌∷◌}
use Rattle.tl_geom.specs.declared.point.Point.{Point}
use Rattle.tl_geom.specs.declared.segment.Segment.{Segment}
use Rattle.tl_geom.specs.Contact.{AreApart, MeetAtEnds}
use Rattle.tl_map_county.specs.TheMap.{MapChain}
use Rattle.tl_map_county.specs.Segments.{IsSegmentOf, Joins}
use Rattle.tl_check_planar.specs.ByHeight.Heights.{low_end, high_end, turn_to, AreNear}

-- u is west of w, by two turns: of their low ends one isn't on the wrong side of the other segment's line, and of their high
-- ends one isn't
pub record IsWestOf (K : ℤ) (u w : Segment) : Type 0 where
  pub below : (pos 0 ≤ℤ turn_to K w (low_end K u)) ⊎ (turn_to K u (low_end K w) ≤ℤ pos 0)
  pub above : (pos 0 ≤ℤ turn_to K w (high_end K u)) ⊎ (turn_to K u (high_end K w) ≤ℤ pos 0)

-- two segments share nothing, or one point that is an end of both
abbrev pub AreApartOrAtEnds : (u w : Segment) → Type 0
AreApartOrAtEnds u w = AreApart u w ⊎ ((p : Point) × MeetAtEnds u w p)

-- it is the segment with this number
pub record IsNumbered (chains : List MapChain) (s : ℕ) (segment : Segment) : Type 0 where
  pub c : ℕ
  pub k : ℕ
  pub number : IsSegmentOf chains s c k
  pub joins : Joins chains c k segment

-- K is above the difference of the longitudes of each segment's ends
abbrev pub IsWide : ℤ → List MapChain → Type 0
IsWide K chains = (s : ℕ) (segment : Segment) → IsNumbered chains s segment → AreNear K segment.a segment.b

-- what is tested of neighbours: segment s is west of segment t, and they are apart or share an end of both alone
pub record AreTested (K : ℤ) (chains : List MapChain) (s t : ℕ) : Type 0 where
  pub west : (u w : Segment) → IsNumbered chains s u → IsNumbered chains t w → IsWestOf K u w
  pub free : (u w : Segment) → IsNumbered chains s u → IsNumbered chains t w → AreApartOrAtEnds u w

-- it is so of each two neighbours of a list
abbrev pub EachTwo : (ℕ → ℕ → Type 0) → List ℕ → Type 0
EachTwo P [] = Unit {0}
EachTwo P (s ∷ []) = Unit {0}
EachTwo P (s ∷ (t ∷ rest)) = P s t × EachTwo P (t ∷ rest)
