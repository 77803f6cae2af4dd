-- Walks: rings in which each dart of a map stands once.
use Rattle.std.specs.Prelude.{◌≡◌, ℕ, zero, suc, ◌<◌, ◌≤◌, List, length, slice_index}
use Rattle.tl_map_county.specs.TheMap.{MapChain}
use Rattle.tl_check_sides.specs.declared.fault.WalkFault.{WalkFault}
use Rattle.tl_check_sides.specs.declared.fault.WalkFault.TheVariants.{UnknownDart, DartTwice, DartMissing, WrongStep, NotClosed}
use Rattle.tl_check_sides.specs.Lists.{before, HoldOnce, times_in, list_at, EachList}
use Rattle.tl_check_sides.specs.Sides.{dart_count, Follows, IsRing}

-- the walks: each dart once and nothing else, and each walk is a ring
pub record AreWalks (chains : List MapChain) (walks : List (List ℕ)) : Type 0 where
  pub hold : HoldOnce (dart_count chains) walks
  pub rings : EachList (IsRing chains) walks

-- dart e of the chains doesn't follow their dart d
pub record DoesNotFollow (chains : List MapChain) (d e : ℕ) : Type 0 where
  pub is_dart : d < dart_count chains
  pub other_is_dart : e < dart_count chains
  pub not : ¬ Follows chains d e

-- some dart of the walk doesn't follow the one before it
pub record HasWrongStep (chains : List MapChain) (walk : List ℕ) : Type 0 where
  pub place : ℕ
  pub within : suc place < length walk
  pub wrong : DoesNotFollow chains (slice_index walk place) (slice_index walk (suc place))

-- its first dart doesn't follow its last
pub record IsOpen (chains : List MapChain) (walk : List ℕ) : Type 0 where
  pub some : zero < length walk
  pub wrong : DoesNotFollow chains (before walk zero) (slice_index walk zero)

-- what a fault says of walks
abbrev pub IsWalkFault : List MapChain → List (List ℕ) → WalkFault → Type 0
IsWalkFault chains walks (UnknownDart d) = (dart_count chains ≤ d) × (1 ≤ times_in d walks)
IsWalkFault chains walks (DartTwice d) = 2 ≤ times_in d walks
IsWalkFault chains walks (DartMissing d) = (d < dart_count chains) × (times_in d walks ≡ 0)
IsWalkFault chains walks (WrongStep w) = (w < length walks) × HasWrongStep chains (list_at walks w)
IsWalkFault chains walks (NotClosed w) = (w < length walks) × IsOpen chains (list_at walks w)
