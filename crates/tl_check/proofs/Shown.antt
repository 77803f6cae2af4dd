-- What a valid certificate of a planar map with agreeing sides shows.
use Rattle.std.proofs.Common.{ℕ, ◌∙◌}
use Rattle.tl_map_county.specs.declared.sides.Side.TheVariants.{Outside, Polygon}
use Rattle.tl_map_county.specs.TheMap.{TheMap}
use Rattle.tl_cert.specs.Certificates.{TheCertificate}
use Rattle.tl_check_sides.proofs.Boundaries.{boundary_of}
use Rattle.tl_check_verdict.specs.declared.verdict.Report.{Report}
use Rattle.tl_check_verdict.specs.Sound.{AreClosed}
use Rattle.tl_check_verdict.specs.Verdicts.{IsReport, AreNumbers}
use Rattle.tl_check.specs.Keeping.Parts.{IsShown}

module _ (m : TheMap) (c : TheCertificate) (rings : ℕ) (shown : IsShown m c rings) where
  pub are_closed : AreClosed m
  are_closed = record {
    polygons = λ p h. boundary_of m.chains c.walks (Polygon p) shown.valid.walks shown.sides;
    outside = boundary_of m.chains c.walks Outside shown.valid.walks shown.sides;
  }

  pub is_report : (r : Report) → AreNumbers m rings r → IsReport m r
  is_report r n = record {
    chains = n.chains;
    segments = n.segments;
    nodes = n.nodes;
    polygons = n.polygons;
    landmarks = n.landmarks;
    walks = c.walks;
    rings = shown.valid.walks;
    counted = n.rings_are ∙ shown.counted;
  }
