-- What is asked of a map: that it is sound, and that its faces are true.
use Rattle.std.specs.Prelude.{◌≡◌, ℕ, ◌<◌, Some, List, length, slice_get}
use Rattle.tl_map_county.specs.declared.sides.Side.TheVariants.{Outside, Polygon}
use Rattle.tl_map_county.specs.TheMap.{TheMap}
use Rattle.tl_check_planar.specs.Planar.{IsPlanar}
use Rattle.tl_check_sides.specs.Sides.{SidesAgree, IsClosed}
use Rattle.tl_check_inside.specs.Placed.{ArePlaced}
use Rattle.tl_check_faces.specs.Truth.{AreFacesTrue}

-- chains are planar, sides agree about nodes, the boundary of each polygon and that of the outside is closed rings, each polygon's point
-- lies in its own polygon alone, and faces are true, as `audit --faces` asks
pub record IsSoundWithFaces (m : TheMap) : Type 0 where
  pub planar : IsPlanar m.chains
  pub sides : SidesAgree m.chains
  pub polygons : (p : ℕ) → p < length m.polygons → IsClosed m.chains (Polygon p)
  pub outside : IsClosed m.chains Outside
  pub points : ArePlaced m
  pub faces : AreFacesTrue m.chains

-- so is each of the maps
abbrev pub AreSoundWithFaces : List TheMap → Type 0
AreSoundWithFaces maps = (k : ℕ) (m : TheMap) → slice_get maps k ≡ Some m → IsSoundWithFaces m
