-- Maps that are sound by their walks.
use Rattle.std.proofs.Common.{◌≡◌, ℕ, List, length, ◌∙◌}
use Rattle.tl_map_county.specs.declared.sides.Side.TheVariants.{Outside, Polygon}
use Rattle.tl_map_county.specs.TheMap.{TheMap}
use Rattle.tl_check_planar.specs.Planar.{IsPlanar}
use Rattle.tl_check_sides.specs.Sides.{SidesAgree}
use Rattle.tl_check_sides.specs.Walks.{AreWalks}
use Rattle.tl_check_sides.proofs.Boundaries.{boundary_of}
use Rattle.tl_check_inside.specs.Placed.{ArePlaced}
use Rattle.tl_check_sides.specs.Cells.Cells.{CellsAgree}
use Rattle.tl_check_verdict.specs.declared.verdict.Report.{Report}
use Rattle.tl_check_verdict.specs.Sound.{AreClosed, IsSound}
use Rattle.tl_check_verdict.specs.Verdicts.{IsReport, AreNumbers}

-- boundaries are closed
closed_by : (m : TheMap) (walks : List (List ℕ)) → AreWalks m.chains walks → SidesAgree m.chains → AreClosed m
closed_by m walks are sides = record {
  polygons = λ p h. boundary_of m.chains walks (Polygon p) are sides;
  outside = boundary_of m.chains walks Outside are sides;
}

-- and so the map is sound
pub sound_by : (m : TheMap) (walks : List (List ℕ)) → AreWalks m.chains walks → IsPlanar m.chains → SidesAgree m.chains × CellsAgree m.chains → ArePlaced m → IsSound m
sound_by m walks are planar agree placed = record { planar = planar; sides = agree.0; closed = closed_by m walks are agree.0; points = placed; cells = agree.1 }

-- its numbers
pub report_by : (m : TheMap) (walks : List (List ℕ)) (rings : ℕ) (r : Report) → AreWalks m.chains walks → rings ≡ length walks → AreNumbers m rings r → IsReport m r
report_by m walks rings r are many n = record {
  chains = n.chains;
  segments = n.segments;
  nodes = n.nodes;
  polygons = n.polygons;
  landmarks = n.landmarks;
  walks = walks;
  rings = are;
  counted = n.rings_are ∙ many;
}
