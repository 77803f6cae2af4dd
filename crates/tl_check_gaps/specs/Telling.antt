-- What is told of the gaps of a list.
use Rattle.std.specs.Prelude.{◌≡◌, ℕ, ◌<◌, ℤ, Option, List, ◌++◌, take, drop, All}
use Rattle.tl_geom.specs.declared.point.Point.{Point}
use Rattle.tl_map_county.specs.TheMap.{MapChain}
use Rattle.tl_check_planar.specs.ByHeight.Heights.{height, widest}
use Rattle.tl_check_planar.specs.ByHeight.Slabs.{IsListOf}
use Rattle.tl_check_faces.specs.declared.odd.OddGap.{OddGap}
use Rattle.tl_check_faces.specs.Odd.{IsOddGap, first_number, last_number}
use Rattle.tl_check_gaps.specs.Gaps.{DifferAcross, IsListed}

-- each gap of the list where sides differ is told, of the slab above height n or a lower one
abbrev pub IsToldAlong : List MapChain → ℤ → List ℕ → List OddGap → Type 0
IsToldAlong chains n list gaps =
    (front back : List ℕ) → list ≡ front ++ back → DifferAcross widest chains (last_number front) (first_number back) →
    IsListed widest n (last_number front) (first_number back) gaps

-- what was told between two segments is told
abbrev pub IsKept : (old new : List OddGap) → Type 0
IsKept old new = (n : ℤ) (west east : Option ℕ) → IsListed widest n west east old → IsListed widest n west east new

-- if this is the list of the slab above the point, what is told is true if it was
abbrev pub StaysTrue : List MapChain → Point → List ℕ → (old new : List OddGap) → Type 0
StaysTrue chains p list old new =
    IsListOf widest (height widest p) chains list → All (IsOddGap widest chains) old → All (IsOddGap widest chains) new

-- the gap is told of the slab above the point
abbrev pub IsAt : Point → OddGap → Type 0
IsAt p gap = gap.at ≡ p

-- if all that was told is of the slab above the point, so is all that is told
abbrev pub StaysAt : Point → (old new : List OddGap) → Type 0
StaysAt p old new = All (IsAt p) old → All (IsAt p) new

-- the gap between two parts of a list is told if sides differ there
pub record IsToldAt (chains : List MapChain) (p : Point) (front back : List ℕ) (old new : List OddGap) : Type 0 where
  pub kept : IsKept old new
  pub told : DifferAcross widest chains (last_number front) (first_number back) →
      IsListed widest (height widest p) (last_number front) (first_number back) new
  pub true_ones : StaysTrue chains p (front ++ back) old new
  pub here : StaysAt p old new

-- a list about a point: the part to its west, the numbers that came in there, and the part to its east
pub record ListAbout : Type 0 where
  pub west : List ℕ
  pub ins : List ℕ
  pub east : List ℕ

-- all of it, and its two parts behind k of the numbers that came in
abbrev pub whole_of : ListAbout → List ℕ
whole_of list = (list.west ++ list.ins) ++ list.east

abbrev pub front_of : ListAbout → ℕ → List ℕ
front_of list k = list.west ++ take k list.ins

abbrev pub back_of : ListAbout → ℕ → List ℕ
back_of list k = drop k list.ins ++ list.east

-- each of the first n gaps about the numbers that came in is told if sides differ there
pub record AreToldAbout (chains : List MapChain) (p : Point) (list : ListAbout) (n : ℕ) (old new : List OddGap) : Type 0 where
  pub kept : IsKept old new
  pub told : (k : ℕ) → k < n → DifferAcross widest chains (last_number (front_of list k)) (first_number (back_of list k)) →
      IsListed widest (height widest p) (last_number (front_of list k)) (first_number (back_of list k)) new
  pub true_ones : StaysTrue chains p (whole_of list) old new
  pub here : StaysAt p old new
