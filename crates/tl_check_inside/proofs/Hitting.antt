-- A segment is told by its number, and is hit or not.
use Rattle.std.proofs.Common.{◌≡◌, ◌↔◌, ℕ, Bool, List, sym, subst, ◌∙◌}
use Rattle.std.specs.Bool.{IsTrue}
use Rattle.tl_geom.specs.declared.point.Point.{Point}
use Rattle.tl_geom.specs.declared.rational.Rational.{Rational}
use Rattle.tl_geom.specs.declared.rect.Rect.{Rect}
use Rattle.tl_geom.specs.declared.segment.Segment.{Segment}
use Rattle.tl_geom.specs.Plane.{IsOn, whole}
use Rattle.tl_geom.specs.Ray.{Crosses}
use Rattle.tl_geom.specs.Rectangle.{Holds, AreMeeting, rect_of, ray_rect}
use Rattle.tl_map_county.specs.TheMap.{MapChain}
use Rattle.tl_map_county.specs.Segments.{IsSegmentOf, Joins}
use Rattle.tl_check_planar.specs.Rectangles.{segment_rect}
use Rattle.tl_check_planar.proofs.Numbering.{HaveSameEnds, same_ends}
use Rattle.tl_check_planar.proofs.Rects.{rect_by_number}
use Rattle.tl_check_inside.specs.Inside.{IsCrossed}
use Rattle.tl_check_inside.specs.Keeping.Probing.{IsHolding, IsReached, IsTouching}

pub on_same : (s t : Segment) (r : Rational) → HaveSameEnds s t → IsOn s r → IsOn t r
on_same s t r e on = record {
  straight = rw (sym e.first, sym e.last) on.straight;
  x_between = rw (sym e.first, sym e.last) on.x_between;
  y_between = rw (sym e.first, sym e.last) on.y_between;
}

crosses_same : (s t : Segment) (q : Point) → HaveSameEnds s t → Crosses s (whole q) → Crosses t (whole q)
crosses_same s t q e c = record {
  parted = rw (sym e.first, sym e.last) c.parted;
  place = c.place;
  on_segment = on_same s t c.place e c.on_segment;
  to_the_east = c.to_the_east;
}

-- what is told of a segment by its number is told of the number
pub spot_hit : (own chains : List MapChain) (q : Point) (s c k : ℕ) (segment : Segment) (hits : Bool) → own ≡ chains → IsSegmentOf own s c k → Joins own c k segment → (IsTrue hits ↔ IsOn segment (whole q)) → IsTrue hits ↔ IsHolding chains q s
spot_hit own chains q s c k segment hits same number joins told =
    subst (λ cs. IsTrue hits ↔ IsHolding cs q s) same (
      (λ hit. record { c = c; k = k; segment = segment; number = number; joins = joins; on = told.0 hit }),
      (λ h. told.1 (on_same h.segment segment (whole q) (same_ends own s h.c h.k c k h.segment segment h.number h.joins number joins) h.on)),
    )

pub meets_back : (chains : List MapChain) (q : Point) (s c k : ℕ) (segment : Segment) → IsSegmentOf chains s c k → Joins chains c k segment → AreMeeting (rect_of segment) (ray_rect q) → AreMeeting (ray_rect q) (segment_rect chains s)
meets_back chains q s c k segment number joins m = record {
  point = m.point;
  in_first = m.in_second;
  in_second = subst (λ r. Holds r m.point) (sym (rect_by_number chains s c k segment number joins)) m.in_first;
}

pub ray_hit : (own chains : List MapChain) (q : Point) (s c k : ℕ) (segment : Segment) (hits : Bool) → own ≡ chains → IsSegmentOf own s c k → Joins own c k segment → (Crosses segment (whole q) → AreMeeting (rect_of segment) (ray_rect q)) → (IsTrue hits ↔ Crosses segment (whole q)) → IsTrue hits ↔ IsReached chains q s
ray_hit own chains q s c k segment hits same number joins meets told =
    subst (λ cs. IsTrue hits ↔ IsReached cs q s) same (
      (λ hit. record {
        crossed = record { c = c; k = k; segment = segment; number = number; joins = joins; crosses = told.0 hit };
        meets = meets_back own q s c k segment number joins (meets (told.0 hit));
      }),
      (λ h.
          let x : IsCrossed own q s = h.crossed in
          told.1 (crosses_same x.segment segment q (same_ends own s x.c x.k c k x.segment segment x.number x.joins number joins) x.crosses)),
    )

pub strip_hit : (own chains : List MapChain) (strip rect : Rect) (s c k : ℕ) (segment : Segment) (hits : Bool) → own ≡ chains → IsSegmentOf own s c k → Joins own c k segment → rect ≡ rect_of segment → (IsTrue hits ↔ AreMeeting strip rect) → IsTrue hits ↔ IsTouching chains strip s
strip_hit own chains strip rect s c k segment hits same number joins is told =
    subst (λ cs. IsTrue hits ↔ IsTouching cs strip s) same
    (subst (λ r. IsTrue hits ↔ AreMeeting strip r) (is ∙ sym (rect_by_number own s c k segment number joins)) told)

pub is_crossed : (chains : List MapChain) (q : Point) (s c k : ℕ) (segment : Segment) (told : Bool) → IsSegmentOf chains s c k → Joins chains c k segment → (IsTrue told ↔ Crosses segment (whole q)) → IsTrue told ↔ IsCrossed chains q s
is_crossed chains q s c k segment told number joins is = (
  (λ true. record { c = c; k = k; segment = segment; number = number; joins = joins; crosses = is.0 true }),
  (λ x. is.1 (crosses_same x.segment segment q (same_ends chains s x.c x.k c k x.segment segment x.number x.joins number joins) x.crosses)),
)
