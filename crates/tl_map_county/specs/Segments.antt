-- The segments of a map's chains, numbered from 0 in chain order, from start to end in each chain.
use Rattle.std.specs.Prelude.{◌≡◌, ℕ, ◌+◌, ◌-◌, ◌<◌, Some, List, length, take, sum_by, slice_get}
use Rattle.tl_geom.specs.declared.segment.Segment.{Segment}
use Rattle.tl_geom.specs.Plane.{end_a, end_b}
use Rattle.tl_map_county.specs.TheMap.{MapChain}

-- how many segments the first n chains have
abbrev pub segments_before : List MapChain → ℕ → ℕ
segments_before chains n = sum_by (λ c. length c.points - 1) (take n chains)

-- segment s is the one of chain c that joins its points k and k + 1
pub record IsSegmentOf (chains : List MapChain) (s c k : ℕ) : Type 0 where
  pub chain : MapChain
  pub is : slice_get chains c ≡ Some chain
  pub place : k + 1 < length chain.points
  pub number : s ≡ segments_before chains c + k

-- the segment joins those two points
pub record Joins (chains : List MapChain) (c k : ℕ) (segment : Segment) : Type 0 where
  pub chain : MapChain
  pub is : slice_get chains c ≡ Some chain
  pub from : slice_get chain.points k ≡ Some (end_a segment)
  pub to : slice_get chain.points (k + 1) ≡ Some (end_b segment)
