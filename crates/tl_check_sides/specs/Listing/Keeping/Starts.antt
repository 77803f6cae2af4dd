-- The darts of a map that have zero-cell ids.
use Rattle.std.specs.Prelude.{◌≡◌, ◌≢◌, ◌⊎◌, ℕ, ◌+◌, ◌<◌, ◌≤◌, Option, Some, None, List, length, slice_get, slice_index_or, All}
use Rattle.std.specs.List.{AllPairs}
use Rattle.std.specs.List.Sorted.{IsSortedBy}
use Rattle.std.specs.Ordering.{nat_cmp, ordering_then, is_lt}
use Rattle.tl_geom.specs.declared.point.Point.{Point}
use Rattle.tl_map_county.specs.TheMap.{MapChain}
use Rattle.tl_map_county.specs.Darts.{dart_start}
use Rattle.tl_map_county.specs.Nodes.{AreNodes}
use Rattle.tl_check_sides.specs.Cells.Cells.{HasCell}
use Rattle.tl_check_planar.specs.Listing.Orders.{AreRising}
use Rattle.tl_check_sides.specs.declared.listing.starts.CellStart.{CellStart}

-- what is never read: it stands for a place behind a list
abbrev pub no_start : CellStart
no_start = record { id = 0; node = 0; dart = 0 }

-- the dart at a place
abbrev pub start_at : List CellStart → ℕ → CellStart
start_at starts k = slice_index_or starts k no_start

-- what is said of a dart is true: its id, and the number of its node
pub record IsCellStart (chains : List MapChain) (s : CellStart) : Type 0 where
  pub has : HasCell chains s.dart s.id
  pub starts : (nodes : List Point) → AreNodes chains nodes → slice_get nodes s.node ≡ dart_start chains s.dart
  pub within : (nodes : List Point) → AreNodes chains nodes → s.node < length nodes

-- the dart of this number is at some place
pub record IsStartOf (starts : List CellStart) (d : ℕ) : Type 0 where
  pub place : ℕ
  pub within : place < length starts
  pub is : (start_at starts place).dart ≡ d

-- the first n darts that have ids, by their numbers
pub record AreListed (chains : List MapChain) (n : ℕ) (starts : List CellStart) : Type 0 where
  pub nodes : List Point
  pub are : AreNodes chains nodes
  pub each : All (IsCellStart chains) starts
  pub below : All (λ s. s.dart < n) starts
  pub all : (d id : ℕ) → d < n → HasCell chains d id → IsStartOf starts d
  pub rising : AllPairs (λ s t. s.dart < t.dart) starts

-- by their ids, and those of one id by their numbers
abbrev pub AreById : List CellStart → Type 0
AreById starts = IsSortedBy (λ s t. is_lt (ordering_then (nat_cmp s.id t.id) (nat_cmp s.dart t.dart))) starts

-- all darts that have ids, by their ids, and those of one id by their numbers
pub record AreSorted (chains : List MapChain) (starts : List CellStart) : Type 0 where
  pub nodes : List Point
  pub are : AreNodes chains nodes
  pub each : All (IsCellStart chains) starts
  pub all : (d id : ℕ) → HasCell chains d id → IsStartOf starts d
  pub rising : AreRising (λ s. s.id) (λ s. s.dart) starts

-- what is kept of a node
abbrev pub first_of : List (Option CellStart) → ℕ → Option CellStart
first_of firsts n = slice_index_or firsts n None

-- of the node this is the first dart in the list
pub record IsFirstIn (starts : List CellStart) (count n : ℕ) (s : CellStart) : Type 0 where
  pub place : ℕ
  pub before : place < count
  pub is : start_at starts place ≡ s
  pub node : s.node ≡ n
  pub first : (k : ℕ) → k < place → (start_at starts k).node ≢ n

-- of each node the first of so many darts that starts there is kept, if one does
pub record AreFirstsOf (starts : List CellStart) (count : ℕ) (firsts : List (Option CellStart)) : Type 0 where
  pub each : (n : ℕ) (s : CellStart) → n < length firsts → first_of firsts n ≡ Some s → IsFirstIn starts count n s
  pub all : (k : ℕ) → k < count → first_of firsts (start_at starts k).node ≢ None

-- this is the first dart with the id of the place
pub record IsHeadOf (starts : List CellStart) (place head : ℕ) : Type 0 where
  pub at : ℕ
  pub before : at ≤ place
  pub is : head ≡ (start_at starts at).dart
  pub id : (start_at starts at).id ≡ (start_at starts place).id
  pub first : at ≡ 0 ⊎ ((k : ℕ) → k + 1 ≡ at → (start_at starts k).id ≢ (start_at starts place).id)

-- this is the first dart with the id of the last of n places
abbrev pub HasHead : List CellStart → (n head : ℕ) → Type 0
HasHead starts n head = (k : ℕ) → k + 1 ≡ n → IsHeadOf starts k head

-- of each node that one of the first n darts starts at, the id of the last of these is kept
pub record HaveSeen (starts : List CellStart) (n : ℕ) (seen : List (Option ℕ)) : Type 0 where
  pub each : (m i : ℕ) → slice_index_or seen m None ≡ Some i → (k : ℕ) × (k < n) × ((start_at starts k).node ≡ m) × ((start_at starts k).id ≡ i)
  pub all : (k : ℕ) → k < n → (i : ℕ) × (slice_index_or seen (start_at starts k).node None ≡ Some i) × ((start_at starts k).id ≤ i)
