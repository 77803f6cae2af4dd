-- Rings, as pens write them.
use Rattle.std.specs.Prelude.{ℕ, List, [], ◌∷◌, ◌++◌, flat_map}
use Rattle.std.specs.Option.{option_map_or}
use Rattle.tl_geom.specs.declared.point.Point.{Point}
use Rattle.tl_map_county.specs.TheMap.{MapChain}
use Rattle.tl_map_county.specs.Darts.{dart_start}
use Rattle.tigertopo_pictures.specs.Walks.{dart_points}

-- what a pen writes of the point where a ring starts, and of the step from a point to the next
pub record ThePen : Type 0 where
  pub start : Point → List ℕ
  pub step : (from to : Point) → List ℕ

-- the way from a point along others
abbrev pub steps_text : ThePen → Point → List Point → List ℕ
steps_text pen p [] = []
steps_text pen p (q ∷ rest) = pen.step p q ++ steps_text pen q rest

-- the way along points
abbrev pub line_text : ThePen → List Point → List ℕ
line_text pen [] = []
line_text pen (p ∷ rest) = steps_text pen p rest

-- the way along a dart
abbrev pub dart_text : ThePen → List MapChain → ℕ → List ℕ
dart_text pen chains d = line_text pen (dart_points chains d)

-- the point where a walk starts
abbrev pub ring_start : ThePen → List MapChain → List ℕ → List ℕ
ring_start pen chains [] = []
ring_start pen chains (d ∷ rest) = option_map_or pen.start (dart_start chains d) []

-- a ring: where its first dart starts, and the way along all darts of a walk, so that it ends where it began
unfoldable pub ring_text : ThePen → List MapChain → List ℕ → List ℕ
ring_text pen chains walk = ring_start pen chains walk ++ flat_map (dart_text pen chains) walk
