-- The rectangle of a segment by its number.
use Rattle.std.proofs.Common.{◌≡◌, ℕ, ◌+◌, Some, List, subst}
use Rattle.std.specs.Prelude.{slice_get}
use Rattle.tl_geom.specs.declared.segment.Segment.{Segment}
use Rattle.tl_geom.specs.Rectangle.{rect_of}
use Rattle.tl_map_county.specs.TheMap.{MapChain}
use Rattle.tl_map_county.specs.Segments.{IsSegmentOf, Joins}
use Rattle.tl_check_planar.specs.Rectangles.{segment_rect}
use Rattle.tl_check_planar.specs.Keeping.Apart.{one_found, rect_by_points}

pub rect_by_number : (cs : List MapChain) (s c k : ℕ) (segment : Segment) → IsSegmentOf cs s c k → Joins cs c k segment → segment_rect cs s ≡ rect_of segment
rect_by_number cs s c k segment number joins =
    let same : joins.chain ≡ number.chain = one_found joins.chain number.chain (slice_get cs c) joins.is number.is in
    rect_by_points cs s c k segment.a segment.b number
    (subst (λ (z : MapChain). slice_get z.points k ≡ Some segment.a) same joins.from)
    (subst (λ (z : MapChain). slice_get z.points (k + 1) ≡ Some segment.b) same joins.to)
