-- The order of darts by their nodes and headings, lists in that order, and rounds that are cut of them.
use Rattle.std.specs.Prelude.{◌≡◌, ◌⊎◌, ℕ, ◌+◌, ◌*◌, ◌^◌, ◌<◌, List, [], ◌∷◌, length, map, slice_get, slice_index_or, All, Contains}
use Rattle.std.specs.List.{AllPairs}
use Rattle.tl_geom.specs.declared.point.Point.{Point}
use Rattle.tl_map_county.specs.TheMap.{MapChain}
use Rattle.tl_map_county.specs.Darts.{dart_start, Heads}
use Rattle.tl_map_county.specs.Nodes.{AreNodes}
use Rattle.tl_geom.specs.Turning.{IsBelow}
use Rattle.tl_tree_index.specs.Lists.{HoldsAll}
use Rattle.tl_check_sides.specs.declared.headed.HeadedDart.{HeadedDart}
use Rattle.tl_build_propose.specs.Keeping.Lists.{darts_in}

-- the first comes before the other: its node has the lesser number, or both have one node and it heads before the other
abbrev pub ComesBefore : HeadedDart → HeadedDart → Type 0
ComesBefore s t = (s.node < t.node) ⊎ ((s.node ≡ t.node) × IsBelow s.heading t.heading)

-- none comes before the one in front of it
abbrev pub AreSorted : List HeadedDart → Type 0
AreSorted starts = (k : ℕ) (d : HeadedDart) → k + 1 < length starts → ¬ ComesBefore (slice_index_or starts (k + 1) d) (slice_index_or starts k d)

-- what is said of a dart is true: the number of its node, and its heading
pub record IsStartOf (chains : List MapChain) (s : HeadedDart) : Type 0 where
  pub starts : (nodes : List Point) → AreNodes chains nodes → slice_get nodes s.node ≡ dart_start chains s.dart
  pub within : (nodes : List Point) → AreNodes chains nodes → s.node < length nodes
  pub heads : Heads chains s.dart s.heading

-- they are the chains' darts, sorted
pub record AreStarts (chains : List MapChain) (starts : List HeadedDart) : Type 0 where
  pub all : HoldsAll (2 * length chains) (darts_in starts)
  pub long : length starts ≡ 2 * length chains
  pub few : length starts < 2 ^ 32
  pub each : All (IsStartOf chains) starts
  pub sorted : AreSorted starts

-- the number of the node where the first of some darts starts
abbrev pub node_of : List HeadedDart → ℕ
node_of [] = 0
node_of (s ∷ group) = s.node

-- some darts of one node, sorted
pub record IsGroup (group : List HeadedDart) : Type 0 where
  pub some : 0 < length group
  pub one_node : All (λ s. s.node ≡ node_of group) group
  pub sorted : AreSorted group

-- the rounds are groups of the darts, by rising numbers of their nodes, and the rest is behind them
pub record AreCut (starts rest : List HeadedDart) (rounds : List (List ℕ)) : Type 0 where
  pub groups : List (List HeadedDart)
  pub are : rounds ≡ map darts_in groups
  pub each : All IsGroup groups
  pub held : All (All (Contains starts)) groups
  pub rising : AllPairs (λ g h. node_of g < node_of h) groups
  pub behind : All (λ g. All (λ s. node_of g < s.node) rest) groups
  pub rest_held : All (Contains starts) rest
  pub sorted : AreSorted rest
