-- What is kept of the rounds taken so far.
use Rattle.std.specs.Prelude.{◌≡◌, ◌≢◌, ℕ, ◌<◌, ◌≤◌, ◌^◌, Bool, false, true, Some, List, length, slice_get, slice_index, slice_index_or}
use Rattle.tl_geom.specs.declared.point.Point.{Point}
use Rattle.tl_geom.specs.declared.direction.Direction.{Direction}
use Rattle.tl_map_county.specs.TheMap.{MapChain}
use Rattle.tl_map_county.specs.Darts.{Heads}
use Rattle.tl_map_county.specs.Nodes.{AreNodes}
use Rattle.tl_check_sides.specs.declared.next.Next.{Next}
use Rattle.tl_check_sides.specs.declared.rounds.Rounds.{Rounds}
use Rattle.tl_check_sides.specs.Lists.{before, list_at, EachList}
use Rattle.tl_check_sides.specs.Sides.{dart_count, IsNext}
use Rattle.tl_check_sides.specs.Rounds.{round_start, HasOneNode, AreHeadingsRising}
use Rattle.tl_check_sides.specs.Keeping.Marked.{marked_count, MarkLists}

-- behind each dart of the round the next one is kept
abbrev pub AreLinked : List ℕ → List ℕ → Type 0
AreLinked next round = (k : ℕ) → k < length round → slice_index next (before round k) ≡ slice_index round k

-- each dart of the list heads somewhere
abbrev pub AreHeaded : List MapChain → List ℕ → Type 0
AreHeaded chains round = (k : ℕ) → k < length round → (heading : Direction) × Heads chains (slice_index round k) heading

-- the marked nodes are those where the rounds start
pub record AreNodeMarks (chains : List MapChain) (rounds : List (List ℕ)) (marks : List Bool) : Type 0 where
  pub points : List Point
  pub are : AreNodes chains points
  pub long : length marks ≡ length points
  pub some_round : (k : ℕ) → slice_index_or marks k false ≡ true → (r : ℕ) × (r < length rounds) × (round_start chains (list_at rounds r) ≡ slice_get points k)
  pub each_round : (r k : ℕ) → r < length rounds → k < length points → round_start chains (list_at rounds r) ≡ slice_get points k → slice_index_or marks k false ≡ true

-- there is room for each dart and each node, and for the numbers of the rounds
pub record AreSized (chains : List MapChain) (s : Rounds) : Type 0 where
  pub next : length s.next.items ≡ dart_count chains
  pub marks : length s.marks.items ≡ dart_count chains
  pub points : List Point
  pub are : AreNodes chains points
  pub nodes : length s.nodes.items ≡ length points
  pub few : dart_count chains < 2 ^ 32
  pub taken : s.taken ≤ marked_count s.marks.items

-- these rounds were taken, and none was wrong
pub record HaveTaken (chains : List MapChain) (rounds : List (List ℕ)) (s : Rounds) : Type 0 where
  pub taken : s.taken ≡ length rounds
  pub marks : MarkLists (dart_count chains) rounds s.marks.items
  pub nodes : AreNodeMarks chains rounds s.nodes.items
  pub one_node : EachList (HasOneNode chains) rounds
  pub rising : EachList (AreHeadingsRising chains) rounds
  pub headed : EachList (AreHeaded chains) rounds
  pub linked : EachList (AreLinked s.next.items) rounds
  pub apart : (r s : ℕ) (node : Point) → r < s → s < length rounds → round_start chains (list_at rounds r) ≡ Some node → round_start chains (list_at rounds s) ≢ Some node

-- behind each dart the next one about its node is kept, and it is the only one
pub record KeepNext (chains : List MapChain) (s : Next) : Type 0 where
  pub long : length s.next.items ≡ dart_count chains
  pub below : (d : ℕ) → d < dart_count chains → slice_index s.next.items d < dart_count chains
  pub is_next : (d : ℕ) → d < dart_count chains → IsNext chains d (slice_index s.next.items d)
  pub no_other : (d e : ℕ) → IsNext chains d e → slice_index s.next.items d ≡ e
