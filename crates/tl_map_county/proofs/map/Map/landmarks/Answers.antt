use Rattle.std.proofs.Common.{◌≡◌, ℕ, Some, length, subst, arith}
use Rattle.std.specs.Prelude.{slice_get}
use Rattle.tl_map_county.specs.TheMap.{TheMap, MapLandmark}
use Rattle.tl_map_county.specs.Landmarks.{ArePolygonsOf}
use Rattle.tl_map_county.proofs.RowLemmas.{of_each, length-landmarks_in}
use Rattle.tl_map_county.proofs.map.Map.landmarks.Goals as goal

pub returns-clause-polygons : goal.returns-clause-polygons
returns-clause-polygons c =
    subst (λ (m : TheMap). (l : ℕ) (landmark : MapLandmark) → slice_get m.landmarks l ≡ Some landmark → ArePolygonsOf (length m.polygons) landmark.polygons) c.self.view_is
    (of_each (length c.self.inside.polygons.items) c.self.inside.linked.items c.self.inside.landmarks.items c.self.inside.rows.items c.self.invariant.7)

pub returns-clause-count : goal.returns-clause-count
returns-clause-count c =
    let m = c.self.inside in
    let long = length-landmarks_in m.linked.items m.landmarks.items m.rows.items c.self.invariant.8 in
    rw (← c.self.view_is) (omega (arith, long, c.len.ensures, m.landmarks.ok.0, c.self.invariant.2))
