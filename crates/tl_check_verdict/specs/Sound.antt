-- Sound maps: planar, with sides that agree, with boundaries that are closed rings, with each polygon's point inside its
-- own rings alone, and with zero-cell ids that agree where they were read. And what may be asked of a map beyond that.
use Rattle.std.specs.Prelude.{ℕ, ◌<◌, Bool, IsTrue, length}
use Rattle.tl_map_county.specs.declared.sides.Side.TheVariants.{Outside, Polygon}
use Rattle.tl_map_county.specs.TheMap.{TheMap}
use Rattle.tl_check_planar.specs.Planar.{IsPlanar}
use Rattle.tl_check_sides.specs.Sides.{SidesAgree, IsClosed}
use Rattle.tl_check_inside.specs.Placed.{ArePlaced}
use Rattle.tl_check_sides.specs.Cells.Cells.{CellsAgree}
use Rattle.tl_check_faces.specs.Truth.{AreFacesTrue}

-- the boundary of each polygon, and that of the outside, is closed rings
pub record AreClosed (m : TheMap) : Type 0 where
  pub polygons : (p : ℕ) → p < length m.polygons → IsClosed m.chains (Polygon p)
  pub outside : IsClosed m.chains Outside

-- the map is sound
pub record IsSound (m : TheMap) : Type 0 where
  pub planar : IsPlanar m.chains
  pub sides : SidesAgree m.chains
  pub closed : AreClosed m
  pub points : ArePlaced m
  pub cells : CellsAgree m.chains

-- what is asked of the map is met: it is sound, and where faces are asked for, they are true: at each place that is on no chain lies one
-- polygon, or the outside, and each side of each chain names what lies there
pub record IsSoundFor (faces : Bool) (m : TheMap) : Type 0 where
  pub sound : IsSound m
  pub facing : IsTrue faces → AreFacesTrue m.chains
