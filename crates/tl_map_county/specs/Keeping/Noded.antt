-- Kept on the way: the starts of darts by point, and the numbers of nodes.
use Rattle.std.specs.Prelude.{◌≡◌, ℕ, ◌+◌, ◌*◌, ◌/◌, ◌<◌, ◌⊎◌, ◌≢◌, Option, Some, List, length, map, slice_get, slice_index, slice_index_or, All, Contains}
use Rattle.std.specs.List.{AllPairs}
use Rattle.std.specs.List.Sorted.{IsSortedBy}
use Rattle.std.specs.Option.{option_and_then}
use Rattle.std.specs.Ordering.{is_lt}
use Rattle.tl_geom.specs.declared.point.Point.{Point}
use Rattle.tl_map_county.specs.declared.nodes.DartStart.{DartStart}
use Rattle.tl_map_county.specs.declared.nodes.Nodes.{Nodes}
use Rattle.tl_map_county.specs.Chains.{CompleteChain}
use Rattle.tl_map_county.specs.Darts.{directed, is_along}
use Rattle.tl_map_county.specs.Nodes.{point_cmp, IsBefore, AreStarts}

-- the point where a dart of the chains starts
abbrev pub start_in : List CompleteChain → ℕ → Option Point
start_in cs d = option_and_then (λ c. slice_get (directed (is_along d) c.points) 0) (slice_get cs (d / 2))

-- the entries tell where the first n darts start
pub record TellStarts (start : ℕ → Option Point) (n : ℕ) (entries : List DartStart) : Type 0 where
  pub count : length entries ≡ n
  pub each : All (λ e. (e.dart < n) × (start e.dart ≡ Some e.point)) entries
  pub whole : (d : ℕ) → d < n → Contains (map (λ e. e.dart) entries) d

-- the entries stand in the order of their points
abbrev pub AreByPoint : List DartStart → Type 0
AreByPoint entries = IsSortedBy (λ (a b : DartStart). is_lt (point_cmp a.point b.point)) entries

-- each entry's dart is below n, and those of one dart have one point
pub record AreDarts (n : ℕ) (entries : List DartStart) : Type 0 where
  pub below : All (λ e. e.dart < n) entries
  pub one_point : (i j : ℕ) (x : DartStart) → i < length entries → j < length entries → (slice_index_or entries i x).dart ≡ (slice_index_or entries j x).dart → (slice_index_or entries i x).point ≡ (slice_index_or entries j x).point

-- the distinct points of the entries are numbered in their order
pub record AreNumbered (entries : List DartStart) (numbers : List ℕ) (count : ℕ) : Type 0 where
  pub nodes : List Point
  pub in_order : AllPairs IsBefore nodes
  pub no_other : All (λ p. (k : ℕ) × (k < length entries) × ((x : DartStart) → (slice_index_or entries k x).point ≡ p)) nodes
  pub numbers_are : (k : ℕ) (x : DartStart) → k < length entries → slice_get nodes (slice_index numbers (slice_index_or entries k x).dart) ≡ Some (slice_index_or entries k x).point
  pub count_is : count ≡ length nodes

-- how many points there are with one more: as many where it is the previous one
abbrev pub CountsOn : ℕ → Option Point → Point → ℕ → Type 0
CountsOn count previous point more = ((previous ≡ Some point) × (more ≡ count)) ⊎ ((previous ≢ Some point) × (more ≡ count + 1))

-- the darts of the chains are numbered by the nodes where they start
pub record AreNumberedNodes (cs : List CompleteChain) (n : Nodes) : Type 0 where
  pub points : List Point
  pub are : AreStarts (start_in cs) points
  pub count : n.count ≡ length points
  pub long : length n.numbers.items ≡ 2 * length cs
  pub numbers : (d : ℕ) → d < 2 * length cs → slice_get points (slice_index n.numbers.items d) ≡ start_in cs d
  pub within : (d : ℕ) → d < 2 * length cs → slice_index n.numbers.items d < length points
