-- A point that lies strictly between two neighbours of the list at its height, and the side that it sees.
use Rattle.std.specs.Prelude.{◌≡◌, ℕ, ℤ, pos, ◌<ℤ◌, List, [], ◌∷◌, ◌++◌}
use Rattle.tl_geom.specs.declared.point.Point.{Point}
use Rattle.tl_geom.specs.declared.segment.Segment.{Segment}
use Rattle.tl_map_county.specs.declared.sides.Side.{Side}
use Rattle.tl_map_county.specs.declared.sides.Side.TheVariants.{Outside}
use Rattle.tl_map_county.specs.TheMap.{MapChain}
use Rattle.tl_check_inside.specs.Inside.{flanks_at}
use Rattle.tl_check_planar.specs.ByHeight.Heights.{height, AreNear, turn_to}
use Rattle.tl_check_planar.specs.ByHeight.Neighbours.{IsNumbered}
use Rattle.tl_check_planar.specs.ByHeight.Slabs.{IsListOf}

-- q is no end of a segment, and K is above the difference of its longitude and that of any such end
pub record IsNoVertex (K : ℤ) (chains : List MapChain) (q : Point) : Type 0 where
  pub near_first : (s : ℕ) (segment : Segment) → IsNumbered chains s segment → AreNear K q segment.a
  pub near_last : (s : ℕ) (segment : Segment) → IsNumbered chains s segment → AreNear K q segment.b
  pub no_first : (s : ℕ) (segment : Segment) → IsNumbered chains s segment → ¬ (q ≡ segment.a)
  pub no_last : (s : ℕ) (segment : Segment) → IsNumbered chains s segment → ¬ (q ≡ segment.b)

-- q lies strictly east of segment s, or strictly west of it
abbrev pub IsEastOf : ℤ → List MapChain → Point → ℕ → Type 0
IsEastOf K chains q s = (segment : Segment) → IsNumbered chains s segment → turn_to K segment q <ℤ pos 0

abbrev pub IsWestOfIt : ℤ → List MapChain → Point → ℕ → Type 0
IsWestOfIt K chains q s = (segment : Segment) → IsNumbered chains s segment → pos 0 <ℤ turn_to K segment q

-- q lies strictly east of the last segment of a list, if there is one
abbrev pub IsEastOfLast : ℤ → List MapChain → Point → List ℕ → Type 0
IsEastOfLast K chains q [] = Unit {0}
IsEastOfLast K chains q (s ∷ []) = IsEastOf K chains q s
IsEastOfLast K chains q (s ∷ (t ∷ rest)) = IsEastOfLast K chains q (t ∷ rest)

-- q lies strictly west of the first segment of a list, if there is one
abbrev pub IsWestOfFirst : ℤ → List MapChain → Point → List ℕ → Type 0
IsWestOfFirst K chains q [] = Unit {0}
IsWestOfFirst K chains q (s ∷ rest) = IsWestOfIt K chains q s

-- in the list of the slab above q, q stands between the one part and the other
pub record IsBetween (K : ℤ) (chains : List MapChain) (q : Point) (front back : List ℕ) : Type 0 where
  pub listed : IsListOf K (height K q) chains (front ++ back)
  pub east : IsEastOfLast K chains q front
  pub west : IsWestOfFirst K chains q back

-- the far side of each segment of a list is the near side of the next, and the outside is the far side of the last
abbrev pub AreFacing : List MapChain → List ℕ → Type 0
AreFacing chains [] = Unit {0}
AreFacing chains (s ∷ []) = (flanks_at chains s).far ≡ Outside
AreFacing chains (s ∷ (t ∷ rest)) = ((flanks_at chains s).far ≡ (flanks_at chains t).near) × AreFacing chains (t ∷ rest)

-- what a point sees to its east: the near side of the first segment, or the outside where there is none
abbrev pub seen_side : List MapChain → List ℕ → Side
seen_side chains [] = Outside
seen_side chains (s ∷ rest) = (flanks_at chains s).near
