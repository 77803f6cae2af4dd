-- Rounds: the darts that start at each node, counter-clockwise from east.
use Rattle.std.specs.Prelude.{◌≡◌, ◌≢◌, ℕ, zero, suc, ◌<◌, ◌≤◌, Some, Option, List, length, slice_get, slice_index}
use Rattle.std.specs.Option.{option_and_then}
use Rattle.tl_geom.specs.declared.point.Point.{Point}
use Rattle.tl_geom.specs.declared.direction.Direction.{Direction}
use Rattle.tl_geom.specs.Turning.{IsBelow}
use Rattle.tl_map_county.specs.TheMap.{MapChain}
use Rattle.tl_map_county.specs.Darts.{dart_start, Heads}
use Rattle.tl_check_sides.specs.declared.fault.RoundFault.{RoundFault}
use Rattle.tl_check_sides.specs.declared.fault.RoundFault.TheVariants.{UnknownDart, DartTwice, DartMissing, StartsElsewhere, NodeRepeated, OrderNotRising}
use Rattle.tl_check_sides.specs.Lists.{HoldOnce, times_in, list_at, EachList}
use Rattle.tl_check_sides.specs.Sides.{dart_count}

-- dart d heads before dart e in a turn counter-clockwise from east
pub record HeadsBefore (chains : List MapChain) (d e : ℕ) : Type 0 where
  pub first : Direction
  pub second : Direction
  pub d_heads : Heads chains d first
  pub e_heads : Heads chains e second
  pub rises : IsBelow first second

-- the point where the round's first dart starts
abbrev pub round_start : List MapChain → List ℕ → Option Point
round_start chains round = option_and_then (dart_start chains) (slice_get round zero)

-- all darts of the round start at one node
abbrev pub HasOneNode : List MapChain → List ℕ → Type 0
HasOneNode chains round = (k : ℕ) → k < length round → dart_start chains (slice_index round k) ≡ round_start chains round

-- the headings of its darts rise strictly
abbrev pub AreHeadingsRising : List MapChain → List ℕ → Type 0
AreHeadingsRising chains round = (k : ℕ) → suc k < length round → HeadsBefore chains (slice_index round k) (slice_index round (suc k))

-- the rounds: each dart once and nothing else, in each round the darts of one node with rising headings, no two rounds of
-- one node
pub record AreRounds (chains : List MapChain) (rounds : List (List ℕ)) : Type 0 where
  pub hold : HoldOnce (dart_count chains) rounds
  pub one_node : EachList (HasOneNode chains) rounds
  pub rising : EachList (AreHeadingsRising chains) rounds
  pub apart : (r s : ℕ) (node : Point) → r < s → s < length rounds → round_start chains (list_at rounds r) ≡ Some node → round_start chains (list_at rounds s) ≢ Some node

-- two darts of the round start at two points
pub record HasTwoNodes (chains : List MapChain) (round : List ℕ) : Type 0 where
  pub place : ℕ
  pub within : place < length round
  pub one : Point
  pub other : Point
  pub first_starts : round_start chains round ≡ Some one
  pub place_starts : dart_start chains (slice_index round place) ≡ Some other
  pub differ : one ≢ other

-- the round's first dart starts where the first dart of an earlier round does
pub record IsRoundRepeated (chains : List MapChain) (rounds : List (List ℕ)) (r : ℕ) : Type 0 where
  pub within : r < length rounds
  pub earlier : ℕ
  pub is_earlier : earlier < r
  pub node : Point
  pub earlier_starts : round_start chains (list_at rounds earlier) ≡ Some node
  pub starts : round_start chains (list_at rounds r) ≡ Some node

-- the heading of some dart of the round isn't before that of the one behind it
pub record HasFall (chains : List MapChain) (round : List ℕ) : Type 0 where
  pub place : ℕ
  pub within : suc place < length round
  pub first : Direction
  pub second : Direction
  pub place_heads : Heads chains (slice_index round place) first
  pub behind_heads : Heads chains (slice_index round (suc place)) second
  pub falls : ¬ IsBelow first second

-- what a fault says of rounds
abbrev pub IsRoundFault : List MapChain → List (List ℕ) → RoundFault → Type 0
IsRoundFault chains rounds (UnknownDart d) = (dart_count chains ≤ d) × (1 ≤ times_in d rounds)
IsRoundFault chains rounds (DartTwice d) = 2 ≤ times_in d rounds
IsRoundFault chains rounds (DartMissing d) = (d < dart_count chains) × (times_in d rounds ≡ 0)
IsRoundFault chains rounds (StartsElsewhere r) = (r < length rounds) × HasTwoNodes chains (list_at rounds r)
IsRoundFault chains rounds (NodeRepeated r) = IsRoundRepeated chains rounds r
IsRoundFault chains rounds (OrderNotRising r) = (r < length rounds) × HasFall chains (list_at rounds r)
