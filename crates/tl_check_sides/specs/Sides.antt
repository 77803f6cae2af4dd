-- Sides that agree: about each node, what is on the left of a dart is on the right of the next one. And the rings and
-- boundaries of what lies on the left of darts.
use Rattle.std.specs.Prelude.{◌≡◌, ◌≢◌, ℕ, zero, ◌<◌, ◌*◌, Some, Option, List, length, slice_index, All}
use Rattle.std.specs.List.{concat}
use Rattle.tl_geom.specs.declared.point.Point.{Point}
use Rattle.tl_geom.specs.declared.direction.Direction.{Direction}
use Rattle.tl_geom.specs.Turning.{IsWithin}
use Rattle.tl_map_county.specs.declared.sides.Side.{Side}
use Rattle.tl_map_county.specs.TheMap.{MapChain}
use Rattle.tl_map_county.specs.Darts.{reverse_dart, dart_start, dart_end, dart_left, Heads}
use Rattle.tl_tree_index.specs.Hits.{times}
use Rattle.tl_check_sides.specs.Lists.{before}

-- how many darts there are: two for each chain
abbrev pub dart_count : List MapChain → ℕ
dart_count chains = 2 * length chains

-- b is next after a: both start at one node, and no dart that starts there heads strictly within the turn
-- counter-clockwise from a to b
pub record IsNext (chains : List MapChain) (a b : ℕ) : Type 0 where
  pub node : Point
  pub a_starts : dart_start chains a ≡ Some node
  pub b_starts : dart_start chains b ≡ Some node
  pub from : Direction
  pub to : Direction
  pub a_heads : Heads chains a from
  pub b_heads : Heads chains b to
  pub none_between : (c : ℕ) (heading : Direction) → dart_start chains c ≡ Some node → Heads chains c heading → ¬ IsWithin from to heading

-- what lies on the right of a dart: what lies on the left of its reverse
abbrev pub dart_right : List MapChain → ℕ → Option Side
dart_right chains d = dart_left chains (reverse_dart d)

-- sides agree: wherever a dart is next after another, it has on its right what the other has on its left
abbrev pub SidesAgree : List MapChain → Type 0
SidesAgree chains = (a b : ℕ) → IsNext chains a b → dart_left chains a ≡ dart_right chains b

-- e follows d: it starts where d ends, and the reverse of d is next after it
pub record Follows (chains : List MapChain) (d e : ℕ) : Type 0 where
  pub meets : dart_end chains d ≡ dart_start chains e
  pub next : IsNext chains e (reverse_dart d)

-- a ring: some darts, each of which follows the one before, and the first the last
pub record IsRing (chains : List MapChain) (ring : List ℕ) : Type 0 where
  pub some : zero < length ring
  pub follows : (k : ℕ) → k < length ring → Follows chains (before ring k) (slice_index ring k)

-- a boundary of a side: rings in which each dart with that side on its left stands once, and no other dart stands
pub record IsBoundary (chains : List MapChain) (side : Side) (rings : List (List ℕ)) : Type 0 where
  pub closed : All (IsRing chains) rings
  pub once : (d : ℕ) → dart_left chains d ≡ Some side → times d (concat rings) ≡ 1
  pub no_other : (d : ℕ) → dart_left chains d ≢ Some side → times d (concat rings) ≡ 0

-- the side's boundary is closed rings
abbrev pub IsClosed : List MapChain → Side → Type 0
IsClosed chains side = (rings : List (List ℕ)) × IsBoundary chains side rings
