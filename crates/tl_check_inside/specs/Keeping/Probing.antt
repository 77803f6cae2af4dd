-- What the probes hit, and the law of probes: what is hit meets the region. It stands here, as an impl cites no proofs.
use Rattle.std.proofs.Common.{◌≡◌, ℕ, ◌<◌, ◌≤ℤ◌, pos, Some, List, length, sym, subst, arith}
use Rattle.std.specs.Prelude.{slice_get}
use Rattle.std.proofs.lemmas.Int.{ints}
use Rattle.tl_geom.specs.declared.point.Point.{Point}
use Rattle.tl_geom.specs.declared.rect.Rect.{Rect}
use Rattle.tl_geom.specs.declared.segment.Segment.{Segment}
use Rattle.tl_geom.specs.Plane.{IsOn, whole}
use Rattle.tl_geom.specs.Rectangle.{Holds, AreMeeting, ray_rect, spot_rect}
use Rattle.tl_geom.proofs.Rectangles.{on_holds}
use Rattle.tl_map_county.specs.TheMap.{MapChain}
use Rattle.tl_map_county.specs.Segments.{segments_before, IsSegmentOf, Joins}
use Rattle.tl_check_planar.specs.Rectangles.{segment_rect}
use Rattle.tl_check_planar.proofs.Rects.{rect_by_number}
use Rattle.tl_check_inside.specs.Inside.{IsCrossed}

-- segment s holds the point
pub record IsHolding (chains : List MapChain) (q : Point) (s : ℕ) : Type 0 where
  pub c : ℕ
  pub k : ℕ
  pub segment : Segment
  pub number : IsSegmentOf chains s c k
  pub joins : Joins chains c k segment
  pub on : IsOn segment (whole q)

pub holding_meets : (chains : List MapChain) (q : Point) (s : ℕ) → s < segments_before chains (length chains)
    → IsHolding chains q s → AreMeeting (spot_rect q) (segment_rect chains s)
holding_meets chains q s lt h = record {
  point = q;
  in_first = record { west = omega (arith, ints); east = omega (arith, ints); south = omega (arith, ints); north = omega (arith, ints) };
  in_second = subst (λ r. Holds r q) (sym (rect_by_number chains s h.c h.k h.segment h.number h.joins)) (on_holds h.segment q h.on);
}

-- the rectangle of segment s meets this one
abbrev pub IsTouching : List MapChain → Rect → ℕ → Type 0
IsTouching chains strip s = AreMeeting strip (segment_rect chains s)

pub touching_meets : (chains : List MapChain) (strip : Rect) (s : ℕ) → s < segments_before chains (length chains)
    → IsTouching chains strip s → AreMeeting strip (segment_rect chains s)
touching_meets chains strip s lt h = h

-- no point lies east of the greatest i32
abbrev pub AreInReach : List Point → Type 0
AreInReach points = (k : ℕ) (p : Point) → slice_get points k ≡ Some p → p.x ≤ℤ pos 2147483647

-- no point of a chain does
abbrev pub ChainsAreInReach : List MapChain → Type 0
ChainsAreInReach chains = (c : ℕ) (chain : MapChain) → slice_get chains c ≡ Some chain → AreInReach chain.points

-- the ray crosses segment s, and meets its rectangle
pub record IsReached (chains : List MapChain) (q : Point) (s : ℕ) : Type 0 where
  pub crossed : IsCrossed chains q s
  pub meets : AreMeeting (ray_rect q) (segment_rect chains s)

pub reached_meets : (chains : List MapChain) (q : Point) (s : ℕ) → s < segments_before chains (length chains)
    → IsReached chains q s → AreMeeting (ray_rect q) (segment_rect chains s)
reached_meets chains q s lt h = h.meets
