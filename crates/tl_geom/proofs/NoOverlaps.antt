-- Where two segments have an overlap: those that have one are in line, and in line it is the segment from the later of the
-- first ends to the earlier of the last, where these come in that order and differ.
use Rattle.std.proofs.Common.{◌≡◌, inl, inr, ⊎_elim, ◌↔◌, ℤ, pos, neg_ℤ, ◌≤ℤ◌, Option, Some, None, IfSome, IfNone, IsNone, refl, sym, arith}
use Rattle.std.proofs.lemmas.Int.{ints}
use Rattle.tl_geom.specs.declared.point.Point.{Point}
use Rattle.tl_geom.specs.declared.rational.Rational.{Rational}
use Rattle.tl_geom.specs.declared.segment.Segment.{Segment}
use Rattle.tl_geom.specs.Plane.{step_cross, whole, end_a, end_b}
use Rattle.tl_geom.specs.Contact.{IsShared, IsOnlyShared, IsOverlap, AreApart}
use Rattle.tl_geom.specs.Keeping.Lines.{AreShares, AreInLine, AreInOrder}
use Rattle.tl_geom.proofs.Signs.{sign}
use Rattle.tl_geom.proofs.Places.{place, a_on, b_on, same_sym, same_trans, whole_same}
use Rattle.tl_geom.proofs.Lines.{within_first, within_second}
use Rattle.tl_geom.proofs.Crossings.{only_place}
use Rattle.tl_geom.proofs.Meetings.{beside}
use Rattle.tl_geom.proofs.Overlaps.{AreFound, in_line_made, in_line_at_ends, in_line_apart}
use Rattle.tl_geom.proofs.Ends.{twice as twice_opposite}

-- the ends of an overlap are shared
first_shared : (s t o : Segment) → IsOverlap s t o → IsShared s t (whole o.a)
first_shared s t o k = (k.points (whole o.a)).1 (a_on o)

last_shared : (s t o : Segment) → IsOverlap s t o → IsShared s t (whole o.b)
last_shared s t o k = (k.points (whole o.b)).1 (b_on o)

-- one shared point makes no overlap
pub only_no_overlap : (s t : Segment) (r : Rational) → IsOnlyShared s t r → (o : Segment) → ¬ IsOverlap s t o
only_no_overlap s t r only o k =
    o.different (whole_same o.a o.b
    (same_trans (whole o.a) r (whole o.b) (only.only (whole o.a) (first_shared s t o k)) (same_sym (whole o.b) r (only.only (whole o.b) (last_shared s t o k)))))

pub apart_no_overlap : (s t : Segment) → AreApart s t → (o : Segment) → ¬ IsOverlap s t o
apart_no_overlap s t apart o k = apart (whole o.a) (first_shared s t o k)

-- lines that cross share one point at most
shares_no_overlap : (s t : Segment) (d n m : ℤ) → AreShares s t d n m → (o : Segment) → ¬ IsOverlap s t o
shares_no_overlap s t d n m h o k =
    let first : (pos 0 ≤ℤ n) × (n ≤ℤ d) = within_first s t d n m h (whole o.a) (first_shared s t o k) in
    let second : (pos 0 ≤ℤ m) × (m ≤ℤ d) = within_second s t d n m h (whole o.a) (first_shared s t o k) in
    only_no_overlap s t (place s n d h.above_zero) (only_place s t d n m h first.0 first.1 second.0 second.1) o k

-- segments with an overlap are in line
pub overlap_in_line : (s t o : Segment) → IsOverlap s t o → AreInLine s t
overlap_in_line s t o k =
    let d : ℤ = step_cross s.a s.b t.a t.b in
    let n : ℤ = step_cross t.a t.b t.a s.a in
    let m : ℤ = step_cross s.a s.b t.a s.a in
    ⊎_elim
    (λ below. absurd (shares_no_overlap s t (neg_ℤ d) (neg_ℤ n) (neg_ℤ m)
    (record { above_zero = omega (arith, ints, below); measured = inr (record { whole = twice_opposite d; first = twice_opposite n; second = twice_opposite m }) }) o k))
    (λ w. ⊎_elim
    (λ parallel. ⊎_elim
    (λ low. absurd (apart_no_overlap s t (beside s t s.a s.b t.a t.b d n m (record { first_a = refl; first_b = refl; second_a = refl; second_b = refl; whole = refl; first = refl; second = refl }) parallel (λ e. absurd (omega (arith, ints, low, e)))) o k))
    (λ v. ⊎_elim (λ level. record { parallel = parallel; on_line = level })
    (λ high. absurd (apart_no_overlap s t (beside s t s.a s.b t.a t.b d n m (record { first_a = refl; first_b = refl; second_a = refl; second_b = refl; whole = refl; first = refl; second = refl }) parallel (λ e. absurd (omega (arith, ints, high, e)))) o k)) v)
    (sign m))
    (λ above. absurd (shares_no_overlap s t d n m (record { above_zero = above; measured = inl (record { whole = refl; first = refl; second = refl }) }) o k)) w)
    (sign d)

-- ---- the answers of two segments of one line

pub made_overlap : (s t : Segment) (a b p q first last : Point) → AreFound s t a b p q first last → AreInOrder first last → (o : Option Segment) →
    IfSome o (λ v. (end_a v ≡ first) × (end_b v ≡ last)) → IfSome o (IsOverlap s t)
made_overlap s t a b p q first last k order None ends = tt
made_overlap s t a b p q first last k order (Some v) ends = in_line_made s t a b p q first last k order v ends.0 ends.1

one_point : (s t : Segment) (a b p q first last : Point) → AreFound s t a b p q first last → first ≡ last → (o : Segment) → ¬ IsOverlap s t o
one_point s t a b p q first last k e = only_no_overlap s t (whole first) (in_line_at_ends s t a b p q first last k e).only

pub made_none : (s t : Segment) (a b p q first last : Point) → AreFound s t a b p q first last → (o : Option Segment) → IsNone o ↔ (first ≡ last) →
    IfNone o ((v : Segment) → ¬ IsOverlap s t v)
made_none s t a b p q first last k None h = one_point s t a b p q first last k (h.0 refl)
made_none s t a b p q first last k (Some v) h = tt

pub out_of_order : (s t : Segment) (a b p q first last : Point) → AreFound s t a b p q first last → AreInOrder last first → (o : Segment) → ¬ IsOverlap s t o
out_of_order s t a b p q first last k order o overlap =
    apart_no_overlap s t (in_line_apart s t a b p q first last k order (λ e. one_point s t a b p q first last k (sym e) o overlap)) o overlap
