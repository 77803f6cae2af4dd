-- Segments that don't conflict with one another, or with an end of their own chain.
use Rattle.std.specs.Prelude.{◌≡◌, ◌⊎◌, ℕ, ◌+◌, ◌<◌, List, length}
use Rattle.tl_map_county.specs.TheMap.{MapChain}
use Rattle.tl_map_county.specs.Segments.{IsSegmentOf}
use Rattle.tl_check_planar.specs.Meets.{AreFree}

-- segments s and t don't conflict, whichever has the lower number
pub record AreFreeBothWays (chains : List MapChain) (s t : ℕ) : Type 0 where
  pub upward : s < t → AreFree chains s t
  pub downward : t < s → AreFree chains t s

-- segment s doesn't conflict with the first segment of its own chain, nor with the last
abbrev pub IsFreeOfEnds : List MapChain → ℕ → Type 0
IsFreeOfEnds chains s =
    (c k x l : ℕ) → IsSegmentOf chains s c k → (end : IsSegmentOf chains x c l) → (l ≡ 0) ⊎ (l + 2 ≡ length end.chain.points) → AreFreeBothWays chains s x
