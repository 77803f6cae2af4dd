-- Chains with their points.
use Rattle.std.specs.Prelude.{◌≢◌, ◌<◌, ◌≤◌, ◌+◌, slice_index_or, ℕ, ◌-◌, List, length, map, sum_by}
use Rattle.tl_geom.specs.declared.point.Point.{Point}

-- a chain: its TLID, and its points from start to end
pub record CompleteChain : Type 0 where
  pub tlid : ℕ
  pub points : List Point

-- what is read of a county's chains: the chains by rising TLID, and how many lines were passed over
pub record ChainList : Type 0 where
  pub chains : List CompleteChain
  pub skipped : ℕ

-- the TLIDs of the chains
abbrev pub tlids : List CompleteChain → List ℕ
tlids chains = map (λ c. c.tlid) chains

-- how many segments the chains have
abbrev pub segment_count : List CompleteChain → ℕ
segment_count chains = sum_by (λ c. length c.points - 1) chains

-- two points or more, where neighbours differ
pub record IsProperChain (points : List Point) : Type 0 where
  pub several : 2 ≤ length points
  pub distinct : (k : ℕ) (d : Point) → k + 1 < length points → slice_index_or points k d ≢ slice_index_or points (k + 1) d
