-- Gaps of a slab's list whose facing sides differ, and the lowest of them between two segments.
use Rattle.std.specs.Prelude.{◌≡◌, ◌≢◌, ℕ, ℤ, ◌≤ℤ◌, Option, None, Some, List, [], ◌∷◌, ◌++◌}
use Rattle.tl_geom.specs.declared.segment.Segment.{Segment}
use Rattle.tl_map_county.specs.declared.sides.Side.{Side}
use Rattle.tl_map_county.specs.declared.sides.Side.TheVariants.{Outside}
use Rattle.tl_map_county.specs.TheMap.{MapChain}
use Rattle.tl_check_planar.specs.ByHeight.Heights.{height}
use Rattle.tl_check_planar.specs.ByHeight.Neighbours.{IsNumbered}
use Rattle.tl_check_planar.specs.ByHeight.Slabs.{IsListOf}
use Rattle.tl_check_faces.specs.Lists.{west_side, east_side}
use Rattle.tl_check_faces.specs.declared.odd.OddGap.{OddGap}

-- the first of a list, and the last, where there is one
abbrev pub first_number : List ℕ → Option ℕ
first_number [] = None
first_number (s ∷ rest) = Some s

abbrev pub last_number : List ℕ → Option ℕ
last_number [] = None
last_number (s ∷ []) = Some s
last_number (s ∷ (t ∷ rest)) = last_number (t ∷ rest)

-- the side that segment s names to the west, and the one that it names to the east
pub record NamesWest (K : ℤ) (chains : List MapChain) (s : ℕ) (side : Side) : Type 0 where
  pub segment : Segment
  pub is : IsNumbered chains s segment
  pub names : side ≡ west_side K is.joins.chain segment

pub record NamesEast (K : ℤ) (chains : List MapChain) (s : ℕ) (side : Side) : Type 0 where
  pub segment : Segment
  pub is : IsNumbered chains s segment
  pub names : side ≡ east_side K is.joins.chain segment

-- what is named west of a gap, and what is named east of it: where there is no segment it is the outside
abbrev pub IsNamedWest : ℤ → List MapChain → Option ℕ → Side → Type 0
IsNamedWest K chains None side = side ≡ Outside
IsNamedWest K chains (Some s) side = NamesEast K chains s side

abbrev pub IsNamedEast : ℤ → List MapChain → Option ℕ → Side → Type 0
IsNamedEast K chains None side = side ≡ Outside
IsNamedEast K chains (Some s) side = NamesWest K chains s side

-- in the slab above the point's height the segments stand on both sides of one gap of its list, and the sides differ that they name
-- there
pub record IsOddGap (K : ℤ) (chains : List MapChain) (odd : OddGap) : Type 0 where
  pub front : List ℕ
  pub back : List ℕ
  pub listed : IsListOf K (height K odd.at) chains (front ++ back)
  pub is_west : odd.west ≡ last_number front
  pub is_east : odd.east ≡ first_number back
  pub west : Side
  pub east : Side
  pub named_west : IsNamedWest K chains odd.west west
  pub named_east : IsNamedEast K chains odd.east east
  pub differ : west ≢ east

-- it is such a gap, and none between the same two is lower
pub record IsLowestOddGap (K : ℤ) (chains : List MapChain) (odd : OddGap) : Type 0 where
  pub is : IsOddGap K chains odd
  pub lowest : (other : OddGap) → IsOddGap K chains other → other.west ≡ odd.west → other.east ≡ odd.east →
      height K odd.at ≤ℤ height K other.at
