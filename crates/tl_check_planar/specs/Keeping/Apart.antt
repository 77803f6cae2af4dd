-- The law of the items: segments whose rectangles don't meet don't conflict. It stands here, as an impl cites no proofs.
use Rattle.std.proofs.Common.{◌≡◌, ℕ, zero, suc, ◌+◌, ◌-◌, ◌<◌, Option, Some, List, [], ◌∷◌, ◌++◌, length, get_or, take, ap, sym, subst, ◌∙◌, refl, arith}
use Rattle.std.specs.Prelude.{slice_get}
use Rattle.std.proofs.lemmas.List.{get_or_append_left, get_or-append-add}
use Rattle.std.proofs.lemmas.List.Sums.{sum_by-cons}
use Rattle.tl_geom.specs.declared.point.Point.{Point}
use Rattle.tl_geom.specs.declared.segment.Segment.{Segment}
use Rattle.tl_geom.specs.Rectangle.{AreMeeting, rect_of, nothing}
use Rattle.tl_geom.proofs.Rectangles.{shared_meets}
use Rattle.tl_map_county.specs.TheMap.{MapChain}
use Rattle.tl_map_county.specs.Segments.{segments_before, IsSegmentOf}
use Rattle.tl_check_planar.specs.Meets.{AreFree}
use Rattle.tl_check_planar.specs.Rectangles.{rect_between, rects_from, rects_along, rects_of, segment_rect}

some_same : {X : Type 0} (x y : X) → Some x ≡ Some y → x ≡ y
some_same x y e = cc

-- one look-up gives one value
pub one_found : {X : Type 0} (x y : X) (o : Option X) → o ≡ Some x → o ≡ Some y → x ≡ y
one_found x y o e f = some_same x y (sym e ∙ f)

-- ---- the rectangle by the number

from_point : (p : Point) (ps : List Point) (k : ℕ) (x y : Point) → slice_get (p ∷ ps) k ≡ Some x → slice_get ps k ≡ Some y → get_or (rects_from p ps) k nothing ≡ rect_between x y
from_point p [] k x y e f = absurd (cc)
from_point p (q ∷ ps) zero x y e f =
    ap (λ z. rect_between z q) (one_found p x (Some p) refl e) ∙ ap (λ z. rect_between x z) (one_found q y (Some q) refl f)
from_point p (q ∷ ps) (suc k) x y e f = from_point q ps k x y e f

along : (ps : List Point) (k : ℕ) (x y : Point) → slice_get ps k ≡ Some x → slice_get ps (suc k) ≡ Some y → get_or (rects_along ps) k nothing ≡ rect_between x y
along [] k x y e f = absurd (cc)
along (p ∷ ps) k x y e f = from_point p ps k x y e f

length-rects_from : (p : Point) (ps : List Point) → length (rects_from p ps) ≡ length ps
length-rects_from p [] = refl
length-rects_from p (q ∷ ps) = let rest = length-rects_from q ps in omega arith

length-rects_along : (ps : List Point) → length (rects_along ps) ≡ length ps - 1
length-rects_along [] = refl
length-rects_along (p ∷ ps) = let rest = length-rects_from p ps in omega arith

of_chain : (cs : List MapChain) (c k : ℕ) (x : MapChain) → slice_get cs c ≡ Some x → k + 1 < length x.points → get_or (rects_of cs) (segments_before cs c + k) nothing ≡ get_or (rects_along x.points) k nothing
of_chain [] c k x e lt = absurd (cc)
of_chain (y ∷ cs) zero k x e lt =
    let same : y ≡ x = one_found y x (Some y) refl e in
    let count : length (rects_along x.points) ≡ length x.points - 1 = length-rects_along x.points in
    let place : 0 + k ≡ k = omega arith in
    subst (λ (z : MapChain). get_or (rects_along z.points ++ rects_of cs) (0 + k) nothing ≡ get_or (rects_along x.points) k nothing) (sym same)
    (ap (λ n. get_or (rects_along x.points ++ rects_of cs) n nothing) place ∙ get_or_append_left (rects_along x.points) (rects_of cs) nothing k (omega (arith, count, lt)))
of_chain (y ∷ cs) (suc c) k x e lt =
    let place : segments_before (y ∷ cs) (suc c) + k ≡ length (rects_along y.points) + (segments_before cs c + k) =
    omega (arith, length-rects_along y.points, sum_by-cons (λ (z : MapChain). length z.points - 1) y (take c cs)) in
    ap (λ n. get_or (rects_along y.points ++ rects_of cs) n nothing) place
    ∙ get_or-append-add (rects_along y.points) (rects_of cs) (segments_before cs c + k) nothing ∙ of_chain cs c k x e lt

-- the rectangle of two points of a chain that follow one another
pub rect_by_points : (cs : List MapChain) (s c k : ℕ) (p q : Point) (number : IsSegmentOf cs s c k) → slice_get number.chain.points k ≡ Some p → slice_get number.chain.points (k + 1) ≡ Some q → segment_rect cs s ≡ rect_between p q
rect_by_points cs s c k p q number e f =
    ap (λ n. get_or (rects_of cs) n nothing) number.number ∙ of_chain cs c k number.chain number.is number.place
    ∙ along number.chain.points k p q e (ap (λ n. slice_get number.chain.points n) (after k) ∙ f)
  where
    after : (k : ℕ) → suc k ≡ k + 1
    after k = omega arith

-- ---- shared points

pub apart_are_free : (cs : List MapChain) (s t : ℕ) → s < t → t < segments_before cs (length cs) → ¬ AreMeeting (segment_rect cs s) (segment_rect cs t) → AreFree cs s t
apart_are_free cs s t lt known apart r m =
    let one : Segment = m.on_first.segment in
    let other : Segment = m.on_second.segment in
    let first : segment_rect cs s ≡ rect_of one = rect_by_points cs s m.c m.i one.a one.b m.first m.on_first.from m.on_first.to in
    let second : segment_rect cs t ≡ rect_of other = rect_by_points cs t m.d m.j other.a other.b m.second m.on_second.from m.on_second.to in
    absurd (apart (subst (λ z. AreMeeting z (segment_rect cs t)) (sym first) (subst (λ z. AreMeeting (rect_of one) z) (sym second)
    (shared_meets one other r (record { on_first = m.on_first.on; on_second = m.on_second.on })))))
