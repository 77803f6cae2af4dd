-- Chains whose darts head apart.
use Rattle.std.specs.Prelude.{◌≡◌, ℕ, Some, List, slice_get}
use Rattle.tl_geom.specs.declared.point.Point.{Point}
use Rattle.tl_geom.specs.declared.direction.Direction.{Direction}
use Rattle.tl_geom.specs.declared.rational.Rational.{Rational}
use Rattle.tl_geom.specs.declared.segment.Segment.{Segment}
use Rattle.tl_geom.specs.Plane.{IsOn, IsSame, whole, end_a, end_b}
use Rattle.tl_geom.specs.Turning.{IsOneDirection}
use Rattle.tl_map_county.specs.Chains.{IsProperChain}
use Rattle.tl_map_county.specs.TheMap.{MapChain}
use Rattle.tl_map_county.specs.Darts.{dart_start, dart_second, Heads}

-- each chain has two points or more, where neighbours differ
abbrev pub AreProper : List MapChain → Type 0
AreProper chains = (c : ℕ) (chain : MapChain) → slice_get chains c ≡ Some chain → IsProperChain chain.points

-- two darts that start at one node and head in one direction are one dart
abbrev pub HeadApart : List MapChain → Type 0
HeadApart chains =
    (d e : ℕ) (node : Point) (first second : Direction) → dart_start chains d ≡ Some node → dart_start chains e ≡ Some node →
    Heads chains d first → Heads chains e second → IsOneDirection first second → d ≡ e

-- the rational point lies on the first segment of a dart: from the point where it starts to the next one
pub record IsOnFirst (chains : List MapChain) (d : ℕ) (r : Rational) : Type 0 where
  pub segment : Segment
  pub from : dart_start chains d ≡ Some (end_a segment)
  pub to : dart_second chains d ≡ Some (end_b segment)
  pub on : IsOn segment r

-- the first segments of two darts overlap: beside the node they share two rational points that differ
pub record FirstsOverlap (chains : List MapChain) (d e : ℕ) (node : Point) : Type 0 where
  pub one : Rational
  pub other : Rational
  pub differ : ¬ IsSame one other
  pub beside : ¬ IsSame one (whole node) × ¬ IsSame other (whole node)
  pub one_on : IsOnFirst chains d one × IsOnFirst chains e one
  pub other_on : IsOnFirst chains d other × IsOnFirst chains e other
