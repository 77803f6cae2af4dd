-- The darts of one node in the order of their headings.
use Rattle.std.specs.Prelude.{◌≡◌, ℕ, ◌<◌, Some, List, length, slice_index, Contains}
use Rattle.tl_geom.specs.declared.point.Point.{Point}
use Rattle.tl_geom.specs.declared.direction.Direction.{Direction}
use Rattle.tl_map_county.specs.TheMap.{MapChain}
use Rattle.tl_map_county.specs.Darts.{dart_start, Heads}
use Rattle.tl_check_sides.specs.Rounds.{AreHeadingsRising}

-- the darts are those that start at the node, all of them and no other; each heads somewhere, and their headings rise strictly
pub record AreDartsOf (chains : List MapChain) (node : Point) (darts : List ℕ) : Type 0 where
  pub starts : (k : ℕ) → k < length darts → dart_start chains (slice_index darts k) ≡ Some node
  pub all : (d : ℕ) → dart_start chains d ≡ Some node → Contains darts d
  pub headed : (k : ℕ) → k < length darts → (heading : Direction) × Heads chains (slice_index darts k) heading
  pub rising : AreHeadingsRising chains darts
