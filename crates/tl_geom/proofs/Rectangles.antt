-- Rectangles, and the points and segments in them.
use Rattle.std.proofs.Common.{◌≡◌, inl, inr, ⊎_elim, ◌↔◌, ℤ, pos, ◌-ℤ◌, ◌*ℤ◌, ◌<ℤ◌, ◌≤ℤ◌, Bool, IsTrue, Ordering, ap, sym, subst, ◌∙◌, arith}
use Rattle.std.proofs.lemmas.Int.{ints, clamps, by_lt_z}
use Rattle.std.specs.Int.{int_max, int_min}
use Rattle.std.specs.Ordering.{int_cmp, is_eq}
use Rattle.tl_geom.specs.declared.point.Point.{Point}
use Rattle.tl_geom.specs.declared.rational.Rational.{Rational}
use Rattle.tl_geom.specs.declared.rect.Rect.{Rect}
use Rattle.tl_geom.specs.declared.segment.Segment.{Segment}
use Rattle.tl_geom.specs.Plane.{IsOn, IsBetween, whole, cross, turn_of}
use Rattle.tl_geom.specs.Contact.{IsShared}
use Rattle.tl_geom.specs.Rectangle.{Holds, AreMeeting, IsEmpty, Covers, rect_of}
use Rattle.tl_geom.proofs.Polynomials.{num, ◌⊖◌, ◌⊗◌, same}
use Rattle.tl_geom.proofs.Signs.{cancel_le, mono}
use Rattle.tl_geom.proofs.Conditions.{eq_test}

-- v lies between a and b exactly where it lies from the least to the greatest of them
pub from_least : (a b v : ℤ) → IsBetween a b v → (int_min a b ≤ℤ v) × (v ≤ℤ int_max a b)
from_least a b v = ⊎_elim (λ k. (omega (arith, ints, clamps, k.0, k.1), omega (arith, ints, clamps, k.0, k.1))) (λ k. (omega (arith, ints, clamps, k.0, k.1), omega (arith, ints, clamps, k.0, k.1)))

pub to_between : (a b v : ℤ) → int_min a b ≤ℤ v → v ≤ℤ int_max a b → IsBetween a b v
to_between a b v h k =
    by_lt_z b a (λ down. inr (omega (arith, ints, clamps, h, down), omega (arith, ints, clamps, k, down)))
    (λ up. inl (omega (arith, ints, clamps, h, up), omega (arith, ints, clamps, k, up)))

pub holds_between : (s : Segment) (p : Point) → Holds (rect_of s) p ↔ (IsBetween s.a.x s.b.x p.x × IsBetween s.a.y s.b.y p.y)
holds_between s p = (
  λ h. (to_between s.a.x s.b.x p.x h.west h.east, to_between s.a.y s.b.y p.y h.south h.north),
  λ k.
      let x : (int_min s.a.x s.b.x ≤ℤ p.x) × (p.x ≤ℤ int_max s.a.x s.b.x) = from_least s.a.x s.b.x p.x k.0 in
      let y : (int_min s.a.y s.b.y ≤ℤ p.y) × (p.y ≤ℤ int_max s.a.y s.b.y) = from_least s.a.y s.b.y p.y k.1 in
      record { west = x.0; east = x.1; south = y.0; north = y.1 },
)

-- ---- rectangles that meet

pub meeting_by : (r q : Rect) → int_max r.xmin q.xmin ≤ℤ int_min r.xmax q.xmax → int_max r.ymin q.ymin ≤ℤ int_min r.ymax q.ymax → AreMeeting r q
meeting_by r q h k =
    record {
      point = record { x = int_max r.xmin q.xmin; y = int_max r.ymin q.ymin };
      in_first = record { west = omega (arith, ints, clamps); east = omega (arith, ints, clamps, h); south = omega (arith, ints, clamps); north = omega (arith, ints, clamps, k) };
      in_second = record { west = omega (arith, ints, clamps); east = omega (arith, ints, clamps, h); south = omega (arith, ints, clamps); north = omega (arith, ints, clamps, k) };
    }

pub by_meeting : (r q : Rect) → AreMeeting r q → (int_max r.xmin q.xmin ≤ℤ int_min r.xmax q.xmax) × (int_max r.ymin q.ymin ≤ℤ int_min r.ymax q.ymax)
by_meeting r q m = (least_most r.xmin q.xmin r.xmax q.xmax m.point.x m.in_first.west m.in_second.west m.in_first.east m.in_second.east, least_most r.ymin q.ymin r.ymax q.ymax m.point.y m.in_first.south m.in_second.south m.in_first.north m.in_second.north)
  where
    least_most : (a b c d x : ℤ) → a ≤ℤ x → b ≤ℤ x → x ≤ℤ c → x ≤ℤ d → int_max a b ≤ℤ int_min c d
    least_most a b c d x h k l m = omega (arith, ints, clamps, h, k, l, m)

-- ---- shared points

-- x over d lies from the least of a and b to the greatest of them
pub scaled_least : (a b x d : ℤ) → pos 0 <ℤ d → IsBetween (d *ℤ a) (d *ℤ b) x → ((d *ℤ int_min a b) ≤ℤ x) × (x ≤ℤ (d *ℤ int_max a b))
scaled_least a b x d h between =
    let low : (d *ℤ int_min a b) ≤ℤ (d *ℤ a) = mono d (int_min a b) a (omega (arith, ints, h)) (omega (arith, ints, clamps)) in
    let low' : (d *ℤ int_min a b) ≤ℤ (d *ℤ b) = mono d (int_min a b) b (omega (arith, ints, h)) (omega (arith, ints, clamps)) in
    let high : (d *ℤ a) ≤ℤ (d *ℤ int_max a b) = mono d a (int_max a b) (omega (arith, ints, h)) (omega (arith, ints, clamps)) in
    let high' : (d *ℤ b) ≤ℤ (d *ℤ int_max a b) = mono d b (int_max a b) (omega (arith, ints, h)) (omega (arith, ints, clamps)) in
    ⊎_elim (λ k. (trans low k.0, trans k.1 high')) (λ k. (trans low' k.0, trans k.1 high)) between
  where
    trans : {a b c : ℤ} → a ≤ℤ b → b ≤ℤ c → a ≤ℤ c
    trans h k = omega (arith, ints, h, k)

-- a whole number between which and x over d there is no room
crossed_bounds : (u v x d : ℤ) → pos 0 <ℤ d → (d *ℤ u) ≤ℤ x → x ≤ℤ (d *ℤ v) → u ≤ℤ v
crossed_bounds u v x d h k l = cancel_le d u v h (omega (arith, ints, k, l))

-- where x over d lies between a and b and between p and q, these have a number in common
common : (a b p q x d : ℤ) → pos 0 <ℤ d → IsBetween (d *ℤ a) (d *ℤ b) x → IsBetween (d *ℤ p) (d *ℤ q) x → int_max (int_min a b) (int_min p q) ≤ℤ int_min (int_max a b) (int_max p q)
common a b p q x d h k l =
    let first : ((d *ℤ int_min a b) ≤ℤ x) × (x ≤ℤ (d *ℤ int_max a b)) = scaled_least a b x d h k in
    let second : ((d *ℤ int_min p q) ≤ℤ x) × (x ≤ℤ (d *ℤ int_max p q)) = scaled_least p q x d h l in
    four (int_min a b) (int_min p q) (int_max a b) (int_max p q)
    (crossed_bounds (int_min a b) (int_max a b) x d h first.0 first.1) (crossed_bounds (int_min a b) (int_max p q) x d h first.0 second.1)
    (crossed_bounds (int_min p q) (int_max a b) x d h second.0 first.1) (crossed_bounds (int_min p q) (int_max p q) x d h second.0 second.1)
  where
    four : (a b c e : ℤ) → a ≤ℤ c → a ≤ℤ e → b ≤ℤ c → b ≤ℤ e → int_max a b ≤ℤ int_min c e
    four a b c e h k l m = omega (arith, ints, clamps, h, k, l, m)

-- segments that share a point have rectangles that meet
pub shared_meets : (s t : Segment) (r : Rational) → IsShared s t r → AreMeeting (rect_of s) (rect_of t)
shared_meets s t r k =
    meeting_by (rect_of s) (rect_of t) (common s.a.x s.b.x t.a.x t.b.x r.x r.d r.above_zero k.on_first.x_between k.on_second.x_between)
    (common s.a.y s.b.y t.a.y t.b.y r.y r.d r.above_zero k.on_first.y_between k.on_second.y_between)

-- the turn to a point, and to the same point as a rational point
pub turn_whole : (s : Segment) (p : Point) → cross (s.b.x -ℤ s.a.x) (s.b.y -ℤ s.a.y) (p.x -ℤ pos 1 *ℤ s.a.x) (p.y -ℤ pos 1 *ℤ s.a.y) ≡ turn_of s.a s.b p
turn_whole s p =
    let ux = num (s.b.x -ℤ s.a.x) in let uy = num (s.b.y -ℤ s.a.y) in let one = num (pos 1) in
    same (ux ⊗ (num p.y ⊖ one ⊗ num s.a.y) ⊖ uy ⊗ (num p.x ⊖ one ⊗ num s.a.x)) (ux ⊗ (num p.y ⊖ num s.a.y) ⊖ uy ⊗ (num p.x ⊖ num s.a.x)) (omega arith)

pub on_turn : (s : Segment) (p : Point) → IsOn s (whole p) → turn_of s.a s.b p ≡ pos 0
on_turn s p k = sym (turn_whole s p) ∙ k.straight

-- the rectangle of a segment holds each point on it
pub on_holds : (s : Segment) (p : Point) → IsOn s (whole p) → Holds (rect_of s) p
on_holds s p k = (holds_between s p).1 (of_one s.a.x s.b.x p.x k.x_between, of_one s.a.y s.b.y p.y k.y_between)
  where
    of_one : (a b v : ℤ) → IsBetween (pos 1 *ℤ a) (pos 1 *ℤ b) v → IsBetween a b v
    of_one a b v = ⊎_elim (λ k. inl (omega (arith, ints, k.0), omega (arith, ints, k.1))) (λ k. inr (omega (arith, ints, k.0), omega (arith, ints, k.1)))

-- ---- the least rectangle about two

-- the corners of a rectangle that is not empty are in order
pub corners : (r : Rect) → ¬ IsEmpty r → (r.xmin ≤ℤ r.xmax) × (r.ymin ≤ℤ r.ymax)
corners r full = (
  by_lt_z r.xmax r.xmin (λ h. absurd (full (λ p k. omega (arith, ints, h, k.west, k.east)))) (λ h. h),
  by_lt_z r.ymax r.ymin (λ h. absurd (full (λ p k. omega (arith, ints, h, k.south, k.north)))) (λ h. h),
)

pub least_join : (a b c : Rect) → ¬ IsEmpty a → ¬ IsEmpty b →
    c ≡ record { xmin = int_min a.xmin b.xmin; ymin = int_min a.ymin b.ymin; xmax = int_max a.xmax b.xmax; ymax = int_max a.ymax b.ymax } →
    (r : Rect) → Covers r a → Covers r b → Covers r c
least_join a b c full full' e r k l p h =
    let ca : (a.xmin ≤ℤ a.xmax) × (a.ymin ≤ℤ a.ymax) = corners a full in
    let cb : (b.xmin ≤ℤ b.xmax) × (b.ymin ≤ℤ b.ymax) = corners b full' in
    let low : Holds r (record { x = a.xmin; y = a.ymin }) = k (record { x = a.xmin; y = a.ymin }) (record { west = omega (arith, ints); east = ca.0; south = omega (arith, ints); north = ca.1 }) in
    let high : Holds r (record { x = a.xmax; y = a.ymax }) = k (record { x = a.xmax; y = a.ymax }) (record { west = ca.0; east = omega (arith, ints); south = ca.1; north = omega (arith, ints) }) in
    let low' : Holds r (record { x = b.xmin; y = b.ymin }) = l (record { x = b.xmin; y = b.ymin }) (record { west = omega (arith, ints); east = cb.0; south = omega (arith, ints); north = cb.1 }) in
    let high' : Holds r (record { x = b.xmax; y = b.ymax }) = l (record { x = b.xmax; y = b.ymax }) (record { west = cb.0; east = omega (arith, ints); south = cb.1; north = omega (arith, ints) }) in
    record {
      west = omega (arith, ints, clamps, low.west, low'.west, h.west, ap (λ c. c.xmin) e);
      east = omega (arith, ints, clamps, high.east, high'.east, h.east, ap (λ c. c.xmax) e);
      south = omega (arith, ints, clamps, low.south, low'.south, h.south, ap (λ c. c.ymin) e);
      north = omega (arith, ints, clamps, high.north, high'.north, h.north, ap (λ c. c.ymax) e);
    }

-- ---- the calls

pub points_of : (s : Segment) (r : Rect) → r ≡ rect_of s → (p : Point) → Holds r p ↔ (IsBetween s.a.x s.b.x p.x × IsBetween s.a.y s.b.y p.y)
points_of s r e p = subst (λ r. Holds r p ↔ (IsBetween s.a.x s.b.x p.x × IsBetween s.a.y s.b.y p.y)) (sym e) (holds_between s p)

pub first_of_join : (a b c : Rect) → c ≡ record { xmin = int_min a.xmin b.xmin; ymin = int_min a.ymin b.ymin; xmax = int_max a.xmax b.xmax; ymax = int_max a.ymax b.ymax } → Covers c a
first_of_join a b c e p h =
    record {
      west = omega (arith, ints, clamps, h.west, ap (λ c. c.xmin) e);
      east = omega (arith, ints, clamps, h.east, ap (λ c. c.xmax) e);
      south = omega (arith, ints, clamps, h.south, ap (λ c. c.ymin) e);
      north = omega (arith, ints, clamps, h.north, ap (λ c. c.ymax) e);
    }

pub second_of_join : (a b c : Rect) → c ≡ record { xmin = int_min a.xmin b.xmin; ymin = int_min a.ymin b.ymin; xmax = int_max a.xmax b.xmax; ymax = int_max a.ymax b.ymax } → Covers c b
second_of_join a b c e p h =
    record {
      west = omega (arith, ints, clamps, h.west, ap (λ c. c.xmin) e);
      east = omega (arith, ints, clamps, h.east, ap (λ c. c.xmax) e);
      south = omega (arith, ints, clamps, h.south, ap (λ c. c.ymin) e);
      north = omega (arith, ints, clamps, h.north, ap (λ c. c.ymax) e);
    }

-- a point of the line of a segment is on the segment exactly where the rectangle of the segment holds it
pub holds_on : (s : Segment) (p : Point) (r : Rect) → r ≡ rect_of s → turn_of s.a s.b p ≡ pos 0 → Holds r p → IsOn s (whole p)
holds_on s p r e straight h =
    let k : IsBetween s.a.x s.b.x p.x × IsBetween s.a.y s.b.y p.y = (points_of s r e p).0 h in
    record {
      straight = turn_whole s p ∙ straight;
      x_between = by_one s.a.x s.b.x p.x k.0;
      y_between = by_one s.a.y s.b.y p.y k.1;
    }
  where
    by_one : (a b v : ℤ) → IsBetween a b v → IsBetween (pos 1 *ℤ a) (pos 1 *ℤ b) v
    by_one a b v = ⊎_elim (λ k. inl (omega (arith, ints, k.0), omega (arith, ints, k.1))) (λ k. inr (omega (arith, ints, k.0), omega (arith, ints, k.1)))

-- the call of a test on a segment, with its ends as they were read
pub on_line : (s : Segment) (a b p : Point) → a ≡ s.a → b ≡ s.b → (o : Ordering) (t : Bool) → o ≡ int_cmp (turn_of a b p) (pos 0) → t ≡ is_eq o → IsTrue t ↔ (turn_of s.a s.b p ≡ pos 0)
on_line s a b p e f o t k l =
    subst (λ t. IsTrue t ↔ (turn_of s.a s.b p ≡ pos 0)) (sym l)
    (eq_test (turn_of s.a s.b p) o (k ∙ ap (λ a. int_cmp (turn_of a b p) (pos 0)) e ∙ ap (λ b. int_cmp (turn_of s.a b p) (pos 0)) f))

pub on_holds_in : (s : Segment) (p : Point) (r : Rect) → r ≡ rect_of s → IsOn s (whole p) → Holds r p
on_holds_in s p r e k = subst (λ r. Holds r p) (sym e) (on_holds s p k)
