-- The vertices of chains, by the events there.
use Rattle.std.specs.Prelude.{◌≡◌, ◌⊎◌, ℕ, ◌+◌, if◌then◌else◌, Some, List, slice_get}
use Rattle.tl_map_county.specs.TheMap.{MapChain}
use Rattle.tl_map_county.specs.Segments.{IsSegmentOf}
use Rattle.tl_check_active.specs.declared.events.Event.{Event}
use Rattle.tl_check_planar.specs.ByHeight.Slabs.{IsEndPlace}

-- the event is at point p of chain c
pub record IsAtPlace (chains : List MapChain) (e : Event) (c p : ℕ) : Type 0 where
  pub k : ℕ
  pub number : IsSegmentOf chains e.segment c k
  pub place : p ≡ (if e.first then k else k + 1)

-- point p of chain c is its first or its last
abbrev pub IsEndOfChain : List MapChain → (c p : ℕ) → Type 0
IsEndOfChain chains c p = (chain : MapChain) → slice_get chains c ≡ Some chain → IsEndPlace chain.points p

-- two events may be at one point: they are at one place of one chain, or both at ends of their chains
abbrev pub MayMeet : List MapChain → (e f : Event) → Type 0
MayMeet chains e f =
    (c p d q : ℕ) → IsAtPlace chains e c p → IsAtPlace chains f d q → ((c ≡ d) × (p ≡ q)) ⊎ (IsEndOfChain chains c p × IsEndOfChain chains d q)
