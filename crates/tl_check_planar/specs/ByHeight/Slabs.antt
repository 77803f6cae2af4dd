-- Slabs: what lies between a height and the next. Heights of points are whole numbers, so no segment begins or ends in a slab.
use Rattle.std.specs.Prelude.{◌≡◌, ◌⊎◌, ℕ, ◌+◌, ℤ, ◌≤ℤ◌, ◌<ℤ◌, Some, List, length, slice_get, All}
use Rattle.tl_geom.specs.declared.point.Point.{Point}
use Rattle.tl_geom.specs.declared.segment.Segment.{Segment}
use Rattle.tl_map_county.specs.TheMap.{MapChain}
use Rattle.tl_tree_index.specs.Hits.{times}
use Rattle.tl_check_planar.specs.ByHeight.Heights.{height, low_end, high_end}
use Rattle.tl_check_planar.specs.ByHeight.Neighbours.{IsNumbered, AreTested, EachTwo}

-- segment s is active in the slab above height n: it begins at n or below, and ends above
pub record IsActive (K n : ℤ) (chains : List MapChain) (s : ℕ) : Type 0 where
  pub segment : Segment
  pub is : IsNumbered chains s segment
  pub begun : height K (low_end K segment) ≤ℤ n
  pub lasting : n <ℤ height K (high_end K segment)

-- the segments that are active in a slab, each once, and each two neighbours tested
pub record IsListOf (K n : ℤ) (chains : List MapChain) (list : List ℕ) : Type 0 where
  pub active : All (IsActive K n chains) list
  pub once : (s : ℕ) → IsActive K n chains s → times s list ≡ 1
  pub tested : EachTwo (AreTested K chains) list

-- each slab has such a list
abbrev pub AreSlabsTested : ℤ → List MapChain → Type 0
AreSlabsTested K chains = (n : ℤ) → (list : List ℕ) × IsListOf K n chains list

-- the point is point k of chain c
pub record IsChainPoint (chains : List MapChain) (c k : ℕ) (p : Point) : Type 0 where
  pub chain : MapChain
  pub is : slice_get chains c ≡ Some chain
  pub point : slice_get chain.points k ≡ Some p

-- place k is the first or the last of a chain's points
abbrev pub IsEndPlace : List Point → ℕ → Type 0
IsEndPlace points k = (k ≡ 0) ⊎ (k + 1 ≡ length points)

-- a point that stands at two places of chains stands at ends of chains there: so at each vertex either each segment that ends
-- there is at an end of its chain, or there are two segments, which follow one another in one chain
abbrev pub AreVerticesTested : List MapChain → Type 0
AreVerticesTested chains =
    (c k d j : ℕ) (p : Point) (one : IsChainPoint chains c k p) (other : IsChainPoint chains d j p) →
    ((c ≡ d) × (k ≡ j)) ⊎ (IsEndPlace one.chain.points k × IsEndPlace other.chain.points j)
