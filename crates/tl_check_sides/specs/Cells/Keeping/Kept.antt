-- Kept on the way: of each node the first dart there that has an id, with that id.
use Rattle.std.specs.Prelude.{◌≡◌, ◌≢◌, ℕ, ◌<◌, ◌≤◌, ◌⊎◌, Option, Some, None, List, length, slice_get, slice_index_or}
use Rattle.std.specs.List.Sorted.{IsSortedByKey}
use Rattle.std.specs.Option.{option_map, option_cmp}
use Rattle.std.specs.Ordering.{nat_cmp}
use Rattle.tl_geom.specs.declared.point.Point.{Point}
use Rattle.tl_map_county.specs.TheMap.{MapChain}
use Rattle.tl_map_county.specs.Darts.{dart_start}
use Rattle.tl_map_county.specs.Nodes.{AreNodes}
use Rattle.tl_check_sides.specs.declared.cells.at_odds.CellsAtOdds.{CellsAtOdds}
use Rattle.tl_check_sides.specs.declared.cells.kept.NodeCell.{NodeCell}
use Rattle.tl_check_sides.specs.Cells.Cells.{HasCell}

-- what is kept at a place
abbrev pub kept_at : List (Option NodeCell) → ℕ → Option NodeCell
kept_at kept place = slice_index_or kept place None

-- the dart starts at the node of a place, and its id is the one that is kept there
pub record IsKept (chains : List MapChain) (nodes : List Point) (kept : List (Option NodeCell)) (d id : ℕ) : Type 0 where
  pub place : ℕ
  pub within : place < length nodes
  pub starts : slice_get nodes place ≡ dart_start chains d
  pub cell : NodeCell
  pub is : kept_at kept place ≡ Some cell
  pub same : cell.id ≡ id

-- what is kept at a place is one of the first n darts, which starts at the node of the place, with its id
pub record IsOfNode (chains : List MapChain) (nodes : List Point) (n place : ℕ) (cell : NodeCell) : Type 0 where
  pub below : cell.dart < n
  pub has : HasCell chains cell.dart cell.id
  pub starts : slice_get nodes place ≡ dart_start chains cell.dart

-- of each node a dart that has an id is kept, if one of the first n darts has one there, and all of those have its id
pub record KeepFirst (chains : List MapChain) (n : ℕ) (kept : List (Option NodeCell)) : Type 0 where
  pub nodes : List Point
  pub are : AreNodes chains nodes
  pub long : length kept ≡ length nodes
  pub of_node : (place : ℕ) (cell : NodeCell) → place < length kept → kept_at kept place ≡ Some cell → IsOfNode chains nodes n place cell
  pub each : (d id : ℕ) → d < n → HasCell chains d id → IsKept chains nodes kept d id

-- the id of what is kept
abbrev pub kept_id : Option NodeCell → Option ℕ
kept_id kept = option_map (λ (c : NodeCell). c.id) kept

-- by rising id, behind the places without one
abbrev pub AreById : List (Option NodeCell) → Type 0
AreById kept = IsSortedByKey kept_id (option_cmp nat_cmp) kept

-- the two ids, where both are there, are two
abbrev pub HaveTwoIds : Option NodeCell → Option NodeCell → Type 0
HaveTwoIds one other = (a b : NodeCell) → one ≡ Some a → other ≡ Some b → a.id ≢ b.id

-- two that are kept have one id, and this tells both in the order of their darts
pub record AreRepeat (one other : Option NodeCell) (found : CellsAtOdds) : Type 0 where
  pub a : NodeCell
  pub b : NodeCell
  pub is_one : one ≡ Some a
  pub is_other : other ≡ Some b
  pub same : a.id ≡ b.id
  pub darts : ((found.first ≡ a.dart) × (found.second ≡ b.dart)) ⊎ ((found.first ≡ b.dart) × (found.second ≡ a.dart))
  pub in_order : found.first ≤ found.second
  pub first_id : found.first_id ≡ a.id
  pub second_id : found.second_id ≡ a.id

-- two places in the list are such
pub record HasRepeat (kept : List (Option NodeCell)) (found : CellsAtOdds) : Type 0 where
  pub place : ℕ
  pub other : ℕ
  pub before : place < other
  pub within : other < length kept
  pub are : AreRepeat (kept_at kept place) (kept_at kept other) found
