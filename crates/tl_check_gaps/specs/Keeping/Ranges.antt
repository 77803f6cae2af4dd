-- The points of chains, whose longitudes are numbers of 32 bits.
use Rattle.std.specs.Prelude.{◌≡◌, ℕ, ◌<◌, Some, List, slice_get}
use Rattle.tl_geom.specs.declared.point.Point.{Point}
use Rattle.tl_map_county.specs.TheMap.{MapChain}
use Rattle.tl_check_active.specs.Ranges.{IsInRange}

-- so are those of all of these points
abbrev pub ArePointsInRange : List Point → Type 0
ArePointsInRange points = (k : ℕ) (p : Point) → slice_get points k ≡ Some p → IsInRange p

-- so are those of the first n of them
abbrev pub AreFirstInRange : List Point → ℕ → Type 0
AreFirstInRange points n = (k : ℕ) (p : Point) → k < n → slice_get points k ≡ Some p → IsInRange p

-- so are those of the first n chains
abbrev pub AreChainsInRange : List MapChain → ℕ → Type 0
AreChainsInRange chains n = (c : ℕ) (chain : MapChain) → c < n → slice_get chains c ≡ Some chain → ArePointsInRange chain.points
