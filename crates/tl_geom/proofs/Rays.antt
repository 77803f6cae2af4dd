-- A ray to the east crosses a segment exactly where its point is on the one side of it.
use Rattle.std.proofs.Common.{◌≡◌, inl, inr, ⊎_elim, ◌↔◌, ℤ, pos, ◌+ℤ◌, ◌-ℤ◌, ◌*ℤ◌, ◌<ℤ◌, ◌≤ℤ◌, Bool, false, IsTrue, Ordering, ap, sym, subst, ◌∙◌, arith}
use Rattle.std.proofs.lemmas.Int.{ints, clamps}
use Rattle.std.specs.Int.{int_max, int_min}
use Rattle.std.specs.Ordering.{int_cmp, is_lt, is_gt}
use Rattle.tl_geom.specs.declared.point.Point.{Point}
use Rattle.tl_geom.specs.declared.rational.Rational.{Rational}
use Rattle.tl_geom.specs.declared.segment.Segment.{Segment}
use Rattle.tl_geom.specs.Plane.{cross, turn_of, whole}
use Rattle.tl_geom.specs.Rectangle.{AreMeeting, rect_of, ray_rect}
use Rattle.tl_geom.specs.Ray.{Crosses}
use Rattle.tl_geom.proofs.Polynomials.{num, ◌⊕◌, ◌⊖◌, ◌⊗◌, same, same_by_two}
use Rattle.tl_geom.proofs.Signs.{mono_lt, cancel_lt, product_above, above_of_product, times_zero}
use Rattle.tl_geom.proofs.Places.{place, place_on}
use Rattle.tl_geom.proofs.Rectangles.{meeting_by, scaled_least}
use Rattle.tl_geom.proofs.AtPoints.{parted_by, is_parted, east_height, east_past, is_east}
use Rattle.tl_geom.proofs.Conditions.{gt_test, lt_test, iff_trans}

-- a place of the segment at the height of q: how far it is to the east of q, and the turn to q
pub turn_at : (ux uy ax ay qx qy x y d : ℤ) → cross ux uy (x -ℤ d *ℤ ax) (y -ℤ d *ℤ ay) ≡ pos 0 → y ≡ d *ℤ qy →
    d *ℤ cross ux uy (qx -ℤ ax) (qy -ℤ ay) ≡ uy *ℤ (x -ℤ d *ℤ qx)
turn_at ux uy ax ay qx qy x y d g e =
    let u = num ux in let v = num uy in let w = num d in
    same_by_two (w ⊗ (u ⊗ (num qy ⊖ num ay) ⊖ v ⊗ (num qx ⊖ num ax))) (v ⊗ (num x ⊖ w ⊗ num qx))
    (num (pos 1)) (u ⊗ (num y ⊖ w ⊗ num ay) ⊖ v ⊗ (num x ⊖ w ⊗ num ax)) (num (pos 0)) u (w ⊗ num qy) (num y) g (sym e) (omega arith)

-- the turn to q is above 0 exactly where the segment, which runs upward, passes q on the east
above_turn : (s : Segment) (q : Point) → pos 0 <ℤ (s.b.y -ℤ s.a.y) → Crosses s (whole q) → pos 0 <ℤ turn_of s.a s.b q
above_turn s q up k =
    let r : Rational = k.place in
    let e : r.d *ℤ turn_of s.a s.b q ≡ (s.b.y -ℤ s.a.y) *ℤ (r.x -ℤ r.d *ℤ q.x) =
    turn_at (s.b.x -ℤ s.a.x) (s.b.y -ℤ s.a.y) s.a.x s.a.y q.x q.y r.x r.y r.d k.on_segment.straight (east_height q r k.to_the_east) in
    let h : pos 0 <ℤ ((s.b.y -ℤ s.a.y) *ℤ (r.x -ℤ r.d *ℤ q.x)) = product_above (s.b.y -ℤ s.a.y) (r.x -ℤ r.d *ℤ q.x) up (omega (arith, ints, east_past q r k.to_the_east)) in
    let w : pos 0 <ℤ r.d = r.above_zero in
    above_of_product r.d (turn_of s.a s.b q) (omega (arith, ints, w)) (subst (λ z. pos 0 <ℤ z) (sym e) h)

below_turn : (s : Segment) (q : Point) → (s.b.y -ℤ s.a.y) <ℤ pos 0 → Crosses s (whole q) → turn_of s.a s.b q <ℤ pos 0
below_turn s q down k =
    let r : Rational = k.place in
    let e : r.d *ℤ turn_of s.a s.b q ≡ (s.b.y -ℤ s.a.y) *ℤ (r.x -ℤ r.d *ℤ q.x) =
    turn_at (s.b.x -ℤ s.a.x) (s.b.y -ℤ s.a.y) s.a.x s.a.y q.x q.y r.x r.y r.d k.on_segment.straight (east_height q r k.to_the_east) in
    let h : ((r.x -ℤ r.d *ℤ q.x) *ℤ (s.b.y -ℤ s.a.y)) <ℤ ((r.x -ℤ r.d *ℤ q.x) *ℤ pos 0) = mono_lt (r.x -ℤ r.d *ℤ q.x) (s.b.y -ℤ s.a.y) (pos 0) (omega (arith, ints, east_past q r k.to_the_east)) down in
    let f : (r.x -ℤ r.d *ℤ q.x) *ℤ (s.b.y -ℤ s.a.y) ≡ (s.b.y -ℤ s.a.y) *ℤ (r.x -ℤ r.d *ℤ q.x) = same ((num r.x ⊖ num r.d ⊗ num q.x) ⊗ num (s.b.y -ℤ s.a.y)) (num (s.b.y -ℤ s.a.y) ⊗ (num r.x ⊖ num r.d ⊗ num q.x)) (omega arith) in
    let w : pos 0 <ℤ r.d = r.above_zero in
    cancel_lt r.d (turn_of s.a s.b q) (pos 0) (omega (arith, ints, w)) (omega (arith, ints, e, f, h, times_zero r.d, times_zero (r.x -ℤ r.d *ℤ q.x)))

-- the place at the height of q
height_up : (ay uy qy : ℤ) → uy *ℤ ay +ℤ (qy -ℤ ay) *ℤ uy ≡ uy *ℤ qy
height_up ay uy qy = same (num uy ⊗ num ay ⊕ (num qy ⊖ num ay) ⊗ num uy) (num uy ⊗ num qy) (omega arith)

past_up : (ux uy ax ay qx qy : ℤ) → pos 0 <ℤ cross ux uy (qx -ℤ ax) (qy -ℤ ay) → (uy *ℤ qx) <ℤ (uy *ℤ ax +ℤ (qy -ℤ ay) *ℤ ux)
past_up ux uy ax ay qx qy h =
    let e : (uy *ℤ ax +ℤ (qy -ℤ ay) *ℤ ux) -ℤ uy *ℤ qx ≡ cross ux uy (qx -ℤ ax) (qy -ℤ ay) =
    same (num uy ⊗ num ax ⊕ (num qy ⊖ num ay) ⊗ num ux ⊖ num uy ⊗ num qx) (num ux ⊗ (num qy ⊖ num ay) ⊖ num uy ⊗ (num qx ⊖ num ax)) (omega arith) in
    omega (arith, ints, e, h)

pub height_down : (ay by qy : ℤ) → (ay -ℤ by) *ℤ ay +ℤ (ay -ℤ qy) *ℤ (by -ℤ ay) ≡ (ay -ℤ by) *ℤ qy
height_down ay by qy =
    let a = num ay in let b = num by in let q = num qy in
    same ((a ⊖ b) ⊗ a ⊕ (a ⊖ q) ⊗ (b ⊖ a)) ((a ⊖ b) ⊗ q) (omega arith)

past_down : (ux ax ay by qx qy : ℤ) → cross ux (by -ℤ ay) (qx -ℤ ax) (qy -ℤ ay) <ℤ pos 0 → ((ay -ℤ by) *ℤ qx) <ℤ ((ay -ℤ by) *ℤ ax +ℤ (ay -ℤ qy) *ℤ ux)
past_down ux ax ay by qx qy h =
    let a = num ay in let b = num by in let q = num qy in
    let e : (ay -ℤ by) *ℤ qx -ℤ ((ay -ℤ by) *ℤ ax +ℤ (ay -ℤ qy) *ℤ ux) ≡ cross ux (by -ℤ ay) (qx -ℤ ax) (qy -ℤ ay) =
    same ((a ⊖ b) ⊗ num qx ⊖ ((a ⊖ b) ⊗ num ax ⊕ (a ⊖ q) ⊗ num ux)) (num ux ⊗ (q ⊖ a) ⊖ (b ⊖ a) ⊗ (num qx ⊖ num ax)) (omega arith) in
    omega (arith, ints, e, h)

pub crossed_up : (s : Segment) (q : Point) → s.a.y ≤ℤ q.y → q.y <ℤ s.b.y → (pos 0 <ℤ turn_of s.a s.b q) ↔ Crosses s (whole q)
crossed_up s q low high =
    let up : pos 0 <ℤ (s.b.y -ℤ s.a.y) = omega (arith, ints, low, high) in (
      λ h.
          record {
            parted = is_parted q s.a s.b (inl (low, high));
            place = place s (q.y -ℤ s.a.y) (s.b.y -ℤ s.a.y) up;
            on_segment = place_on s (q.y -ℤ s.a.y) (s.b.y -ℤ s.a.y) up (omega (arith, ints, low)) (omega (arith, ints, high));
            to_the_east =
                is_east q (place s (q.y -ℤ s.a.y) (s.b.y -ℤ s.a.y) up)
                (height_up s.a.y (s.b.y -ℤ s.a.y) q.y)
                (past_up (s.b.x -ℤ s.a.x) (s.b.y -ℤ s.a.y) s.a.x s.a.y q.x q.y h);
          },
      above_turn s q up,
    )

pub crossed_down : (s : Segment) (q : Point) → s.b.y ≤ℤ q.y → q.y <ℤ s.a.y → (turn_of s.a s.b q <ℤ pos 0) ↔ Crosses s (whole q)
crossed_down s q low high =
    let up : pos 0 <ℤ (s.a.y -ℤ s.b.y) = omega (arith, ints, low, high) in (
      λ h.
          record {
            parted = is_parted q s.a s.b (inr (low, high));
            place = place s (s.a.y -ℤ q.y) (s.a.y -ℤ s.b.y) up;
            on_segment = place_on s (s.a.y -ℤ q.y) (s.a.y -ℤ s.b.y) up (omega (arith, ints, high)) (omega (arith, ints, low));
            to_the_east =
                is_east q (place s (s.a.y -ℤ q.y) (s.a.y -ℤ s.b.y) up)
                (height_down s.a.y s.b.y q.y)
                (past_down (s.b.x -ℤ s.a.x) s.a.x s.a.y s.b.y q.x q.y h);
          },
      below_turn s q (omega (arith, ints, low, high)),
    )

-- a ray meets the rectangle of a segment that it crosses
pub ray_meets : (s : Segment) (q : Point) → s.a.x ≤ℤ pos 2147483647 → s.b.x ≤ℤ pos 2147483647 → Crosses s (whole q) → AreMeeting (rect_of s) (ray_rect q)
ray_meets s q ha hb k =
    let r : Rational = k.place in
    let w : pos 0 <ℤ r.d = r.above_zero in
    let x : ((r.d *ℤ int_min s.a.x s.b.x) ≤ℤ r.x) × (r.x ≤ℤ (r.d *ℤ int_max s.a.x s.b.x)) = scaled_least s.a.x s.b.x r.x r.d w k.on_segment.x_between in
    let east : q.x <ℤ int_max s.a.x s.b.x = cancel_lt r.d q.x (int_max s.a.x s.b.x) (omega (arith, ints, w)) (omega (arith, ints, x.1, east_past q r k.to_the_east)) in
    meeting_by (rect_of s) (ray_rect q) (omega (arith, ints, clamps, ha, hb, east)) (⊎_elim (λ p. height s.a.y s.b.y q.y p.0 p.1) (λ p. height' s.a.y s.b.y q.y p.0 p.1) (parted_by q s.a s.b k.parted))
  where
    height : (a b y : ℤ) → a ≤ℤ y → y <ℤ b → int_max (int_min a b) y ≤ℤ int_min (int_max a b) y
    height a b y h k = omega (arith, ints, clamps, h, k)

    height' : (a b y : ℤ) → b ≤ℤ y → y <ℤ a → int_max (int_min a b) y ≤ℤ int_min (int_max a b) y
    height' a b y h k = omega (arith, ints, clamps, h, k)

-- ---- the call

turned : (s : Segment) (a b q : Point) → a ≡ s.a → b ≡ s.b → (o : Ordering) → o ≡ int_cmp (turn_of a b q) (pos 0) → o ≡ int_cmp (turn_of s.a s.b q) (pos 0)
turned s a b q e f o k = k ∙ ap (λ a. int_cmp (turn_of a b q) (pos 0)) e ∙ ap (λ b. int_cmp (turn_of s.a b q) (pos 0)) f

pub upward : (s : Segment) (a b q : Point) → a ≡ s.a → b ≡ s.b → a.y ≤ℤ q.y → q.y <ℤ b.y →
    (o : Ordering) (t : Bool) → o ≡ int_cmp (turn_of a b q) (pos 0) → t ≡ is_gt o → IsTrue t ↔ Crosses s (whole q)
upward s a b q e f low high o t k l =
    subst (λ t. IsTrue t ↔ Crosses s (whole q)) (sym l)
    (iff_trans (gt_test (turn_of s.a s.b q) o (turned s a b q e f o k)) (crossed_up s q (subst (λ a. a.y ≤ℤ q.y) e low) (subst (λ b. q.y <ℤ b.y) f high)))

pub downward : (s : Segment) (a b q : Point) → a ≡ s.a → b ≡ s.b → b.y ≤ℤ q.y → q.y <ℤ a.y →
    (o : Ordering) (t : Bool) → o ≡ int_cmp (turn_of a b q) (pos 0) → t ≡ is_lt o → IsTrue t ↔ Crosses s (whole q)
downward s a b q e f low high o t k l =
    subst (λ t. IsTrue t ↔ Crosses s (whole q)) (sym l)
    (iff_trans (lt_test (turn_of s.a s.b q) o (turned s a b q e f o k)) (crossed_down s q (subst (λ b. b.y ≤ℤ q.y) f low) (subst (λ a. q.y <ℤ a.y) e high)))

pub neither : (s : Segment) (a b q : Point) → a ≡ s.a → b ≡ s.b → ¬ ((a.y ≤ℤ q.y) × (q.y <ℤ b.y)) → ¬ ((b.y ≤ℤ q.y) × (q.y <ℤ a.y)) → IsTrue false ↔ Crosses s (whole q)
neither s a b q e f up down =
    (λ h. absurd (cc), λ k. absurd (⊎_elim (λ p. up (subst (λ a. a.y ≤ℤ q.y) (sym e) p.0, subst (λ b. q.y <ℤ b.y) (sym f) p.1)) (λ p. down (subst (λ b. b.y ≤ℤ q.y) (sym f) p.0, subst (λ a. q.y <ℤ a.y) (sym e) p.1)) (parted_by q s.a s.b k.parted)))
