-- Kept on the way: the chain of each segment.
use Rattle.std.specs.Prelude.{◌≡◌, ℕ, ◌+◌, ◌<◌, List, length, take, slice_index, slice_index_or}
use Rattle.tl_geom.specs.declared.point.Point.{Point}
use Rattle.tl_geom.specs.declared.segment.Segment.{Segment}
use Rattle.tl_geom.specs.Plane.{end_a, end_b}
use Rattle.tl_map_county.specs.Chains.{CompleteChain, segment_count}

-- number s is segment k of one of the first n chains, c
pub record IsNumber (cs : List CompleteChain) (n s c k : ℕ) : Type 0 where
  pub chain : c < n
  pub place : (d : CompleteChain) → k + 1 < length (slice_index_or cs c d).points
  pub number : s ≡ segment_count (take c cs) + k

-- the chain of each segment of the first n chains
pub record NumberUpTo (cs : List CompleteChain) (n : ℕ) (of : List ℕ) : Type 0 where
  pub count : length of ≡ segment_count (take n cs)
  pub each : (s : ℕ) → s < length of → (k : ℕ) × IsNumber cs n s (slice_index of s) k

-- that of each segment of all chains
abbrev pub AreNumberedSegments : List CompleteChain → List ℕ → Type 0
AreNumberedSegments cs of = NumberUpTo cs (length cs) of

-- the segment joins points k and k + 1 of chain c
pub record JoinsPoints (cs : List CompleteChain) (c k : ℕ) (segment : Segment) : Type 0 where
  pub from : (d : CompleteChain) (p : Point) → slice_index_or (slice_index_or cs c d).points k p ≡ end_a segment
  pub to : (d : CompleteChain) (p : Point) → slice_index_or (slice_index_or cs c d).points (k + 1) p ≡ end_b segment
