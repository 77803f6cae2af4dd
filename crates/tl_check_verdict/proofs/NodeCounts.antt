-- The number of nodes of a map is one.
use Rattle.std.proofs.Common.{◌≡◌, ℕ, List, length, sym, ap, ◌∙◌}
use Rattle.tl_geom.specs.declared.point.Point.{Point}
use Rattle.tl_map_county.specs.TheMap.{TheMap, MapChain}
use Rattle.tl_cert.specs.declared.certificate.Counts.{Counts}
use Rattle.tl_check_verdict.specs.Valid.{AreCounts}
use Rattle.tl_map_county.specs.Darts.{dart_start}
use Rattle.tl_map_county.specs.Nodes.{AreNodes}
use Rattle.tl_map_county.proofs.NodeLemmas.{one_list}

-- a number that is that of some list of the nodes is that of each
pub of_each : (chains : List MapChain) (n : ℕ) (some : List Point) → AreNodes chains some → n ≡ length some → (points : List Point) → AreNodes chains points → n ≡ length points
of_each chains n some are same points others = same ∙ ap length (one_list (dart_start chains) some points are others)

-- counts of one map are one
pub one_counts : (m : TheMap) (a b : Counts) (points : List Point) → AreNodes m.chains points → AreCounts m a → AreCounts m b → a ≡ b
one_counts m a b points are p q =
    let chains : a.chains ≡ b.chains = p.chains ∙ sym q.chains in
    let segments : a.segments ≡ b.segments = p.segments ∙ sym q.segments in
    let nodes : a.nodes ≡ b.nodes = p.nodes points are ∙ sym (q.nodes points are) in
    let polygons : a.polygons ≡ b.polygons = p.polygons ∙ sym q.polygons in
    λ i. record { chains = chains i; segments = segments i; nodes = nodes i; polygons = polygons i }
