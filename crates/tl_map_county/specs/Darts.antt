-- The darts of a map's chains: dart 2c runs along chain c, dart 2c + 1 against it.
use Rattle.std.specs.Prelude.{◌≡◌, ℕ, ◌+◌, ◌-◌, ◌/◌, ◌%◌, ◌==◌, Bool, not, ◌-ℤ◌, if◌then◌else◌, Option, Some, List, reverse, slice_get}
use Rattle.std.specs.Option.{option_map, option_and_then}
use Rattle.tl_geom.specs.declared.point.Point.{Point}
use Rattle.tl_geom.specs.declared.direction.Direction.{Direction}
use Rattle.tl_map_county.specs.declared.sides.Side.{Side}
use Rattle.tl_map_county.specs.TheMap.{MapChain}

-- the chain of a dart
abbrev pub chain_of : List MapChain → ℕ → Option MapChain
chain_of chains d = slice_get chains (d / 2)

-- does the dart run along its chain
abbrev pub is_along : ℕ → Bool
is_along d = d % 2 == 0

-- the points in their order, or from the last to the first
abbrev pub directed : Bool → List Point → List Point
directed along ps = if along then ps else reverse ps

-- the reverse of a dart is the chain's other dart
abbrev pub reverse_dart : ℕ → ℕ
reverse_dart d = if is_along d then d + 1 else d - 1

-- the point where a dart starts, and the one after it
abbrev pub dart_start : List MapChain → ℕ → Option Point
dart_start chains d = option_and_then (λ c. slice_get (directed (is_along d) c.points) 0) (chain_of chains d)

abbrev pub dart_second : List MapChain → ℕ → Option Point
dart_second chains d = option_and_then (λ c. slice_get (directed (is_along d) c.points) 1) (chain_of chains d)

-- the point where it ends: the first from the other side
abbrev pub dart_end : List MapChain → ℕ → Option Point
dart_end chains d = option_and_then (λ c. slice_get (directed (not (is_along d)) c.points) 0) (chain_of chains d)

-- what lies on its left: the chain's left along the chain, the chain's right against it
abbrev pub dart_left : List MapChain → ℕ → Option Side
dart_left chains d = option_map (λ c. if is_along d then c.left else c.right) (chain_of chains d)

-- the zero-cell id at its start, where it is read and given
abbrev pub dart_cell : List MapChain → ℕ → Option (Option ℕ)
dart_cell chains d = option_map (λ c. if is_along d then c.start_cell else c.end_cell) (chain_of chains d)

-- it heads from its first point to the second
pub record Heads (chains : List MapChain) (d : ℕ) (heading : Direction) : Type 0 where
  pub first : Point
  pub second : Point
  pub starts : dart_start chains d ≡ Some first
  pub goes : dart_second chains d ≡ Some second
  pub x : heading.x ≡ second.x -ℤ first.x
  pub y : heading.y ≡ second.y -ℤ first.y
