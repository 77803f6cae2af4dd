-- The darts of a map, sorted about their nodes.
use Rattle.std.specs.Prelude.{◌≡◌, ◌⊎◌, ℕ, ◌<◌, ◌^◌, List, length, slice_get, slice_index_or, All}
use Rattle.std.specs.List.{AllPairs}
use Rattle.std.specs.List.Sorted.{IsPermutation}
use Rattle.tl_geom.specs.declared.point.Point.{Point}
use Rattle.tl_geom.specs.Turning.{IsBelow, IsOneDirection}
use Rattle.tl_map_county.specs.TheMap.{MapChain}
use Rattle.tl_map_county.specs.Darts.{dart_start, Heads}
use Rattle.tl_map_county.specs.Nodes.{AreNodes}
use Rattle.tl_check_sides.specs.Sides.{dart_count}
use Rattle.tl_check_sides.specs.declared.headed.HeadedDart.{HeadedDart}

-- both head in one direction about one node
pub record HeadTogether (s t : HeadedDart) : Type 0 where
  pub node : s.node ≡ t.node
  pub one : IsOneDirection s.heading t.heading

-- about one node, the first heads before the other, or both head in one direction and it has the lesser number
abbrev pub HeadsFirst : HeadedDart → HeadedDart → Type 0
HeadsFirst s t = IsBelow s.heading t.heading ⊎ (IsOneDirection s.heading t.heading × (s.dart < t.dart))

-- the first comes before the other: its node has the lesser number, or both have one node and it does about that
abbrev pub ComesBefore : HeadedDart → HeadedDart → Type 0
ComesBefore s t = (s.node < t.node) ⊎ ((s.node ≡ t.node) × HeadsFirst s t)

-- none comes before one in front of it
abbrev pub AreSorted : List HeadedDart → Type 0
AreSorted darts = AllPairs (λ s t. ¬ ComesBefore t s) darts

-- what is said of a dart is true: the number of its node, and its heading
pub record IsHeaded (chains : List MapChain) (nodes : List Point) (s : HeadedDart) : Type 0 where
  pub starts : slice_get nodes s.node ≡ dart_start chains s.dart
  pub within : s.node < length nodes
  pub heads : Heads chains s.dart s.heading

-- the first n darts, by their numbers
pub record AreHeaded (chains : List MapChain) (n : ℕ) (darts : List HeadedDart) : Type 0 where
  pub nodes : List Point
  pub are : AreNodes chains nodes
  pub few : n < 2 ^ 32
  pub long : length darts ≡ n
  pub each : All (IsHeaded chains nodes) darts
  pub numbered : (k : ℕ) (d : HeadedDart) → k < n → (slice_index_or darts k d).dart ≡ k

-- all darts, by their numbers and then sorted
pub record AreDartsSorted (chains : List MapChain) (darts : List HeadedDart) : Type 0 where
  pub numbered : List HeadedDart
  pub headed : AreHeaded chains (dart_count chains) numbered
  pub moved : IsPermutation numbered darts
  pub sorted : AreSorted darts
