-- Segments of chains that are marked.
use Rattle.std.specs.Prelude.{◌≡◌, ℕ, Bool, false, List, slice_index_or}
use Rattle.tl_map_county.specs.TheMap.{MapChain}
use Rattle.tl_map_county.specs.Segments.{IsSegmentOf}

-- each segment has the mark of its chain
abbrev pub AreMarkedSegments : List MapChain → (marks segments : List Bool) → Type 0
AreMarkedSegments chains marks segments =
    (s c k : ℕ) → IsSegmentOf chains s c k → slice_index_or segments s false ≡ slice_index_or marks c false
