-- All gaps of slabs' lists whose facing sides differ.
use Rattle.std.specs.Prelude.{◌≡◌, ◌≢◌, ℕ, ℤ, ◌≤ℤ◌, Option, List, ◌++◌, All, Contains}
use Rattle.std.specs.List.{Any}
use Rattle.tl_map_county.specs.declared.sides.Side.{Side}
use Rattle.tl_map_county.specs.TheMap.{MapChain}
use Rattle.tl_check_planar.specs.ByHeight.Heights.{height}
use Rattle.tl_check_planar.specs.ByHeight.Slabs.{IsListOf, AreSlabsTested}
use Rattle.tl_check_faces.specs.declared.odd.OddGap.{OddGap}
use Rattle.tl_check_faces.specs.AllFaults.{order_of}
use Rattle.tl_check_faces.specs.Odd.{IsNamedWest, IsNamedEast, IsOddGap, first_number, last_number}
use Rattle.tl_check_planar.specs.Listing.Orders.{AreRising}

-- the sides differ that are named on both sides of a gap between two segments, or between one and the outside
pub record DifferAcross (K : ℤ) (chains : List MapChain) (west east : Option ℕ) : Type 0 where
  pub side : Side
  pub opposite : Side
  pub named_west : IsNamedWest K chains west side
  pub named_east : IsNamedEast K chains east opposite
  pub differ : side ≢ opposite

-- a gap between these is listed, of the slab above height n or a lower one
abbrev pub IsListed : (K n : ℤ) → (west east : Option ℕ) → List OddGap → Type 0
IsListed K n west east gaps = Any (λ gap. (gap.west ≡ west) × (gap.east ≡ east) × (height K gap.at ≤ℤ n)) gaps

-- gaps rise strictly by what stands west of them, and of the same by what stands east, so that no two segments stand there twice
abbrev pub AreInOrder : List OddGap → Type 0
AreInOrder gaps = AreRising (λ gap. order_of gap.west) (λ gap. order_of gap.east) gaps

-- of these gaps the lowest of each two segments is kept, in order
pub record AreLowestOfEach (K : ℤ) (gaps kept : List OddGap) : Type 0 where
  pub of_these : All (Contains gaps) kept
  pub listed : (n : ℤ) (west east : Option ℕ) → IsListed K n west east gaps → IsListed K n west east kept
  pub in_order : AreInOrder kept

-- each slab has a list; each gap is one of a slab's list whose facing sides differ; for each such gap of each slab's list one between the
-- same two is listed, of that slab or a lower one; and they are in order, so that no two segments stand there twice, and where they do it
-- is at the lowest such gap between them
pub record AreAllOddGaps (K : ℤ) (chains : List MapChain) (gaps : List OddGap) : Type 0 where
  pub slabs : AreSlabsTested K chains
  pub true_ones : All (IsOddGap K chains) gaps
  pub complete : (n : ℤ) (front back : List ℕ) → IsListOf K n chains (front ++ back) →
      DifferAcross K chains (last_number front) (first_number back) → IsListed K n (last_number front) (first_number back) gaps
  pub in_order : AreInOrder gaps
