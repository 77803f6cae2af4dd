-- What two segments that are not parallel share, by the shares at which their lines cross.
use Rattle.std.proofs.Common.{◌≡◌, ◌≢◌, ◌⊎◌, inl, inr, ⊎_elim, ℤ, pos, ◌+ℤ◌, ◌-ℤ◌, ◌*ℤ◌, neg_ℤ, ◌<ℤ◌, ◌≤ℤ◌, unsigned_abs, ap, sym, subst, ◌∙◌, refl, arith}
use Rattle.std.proofs.lemmas.Int.{ints}
use Rattle.tl_geom.specs.declared.point.Point.{Point}
use Rattle.tl_geom.specs.declared.rational.Rational.{Rational}
use Rattle.tl_geom.specs.declared.segment.Segment.{Segment}
use Rattle.tl_geom.specs.Plane.{IsOn, IsSame, whole, step_cross}
use Rattle.tl_geom.specs.Contact.{IsOnlyShared, IsEnd, AreApart, MeetAtEnds, IsTouch, IsProper}
use Rattle.tl_geom.specs.Keeping.Lines.{AreShares, IsEndAt}
use Rattle.tl_geom.proofs.Polynomials.{num, ◌⊕◌, ◌⊖◌, ◌⊗◌, same_by}
use Rattle.tl_geom.proofs.Signs.{zero_product}
use Rattle.tl_geom.proofs.Places.{place, place_on, place_start, place_finish, some_step, on_same, same_sym, same_trans, same_refl}
use Rattle.tl_geom.proofs.Lines.{first_x, first_y, one_place_x, one_place_y, within_first, within_second}

pub apart_first : (s t : Segment) (d n m : ℤ) → AreShares s t d n m → (n <ℤ pos 0) ⊎ (d <ℤ n) → AreApart s t
apart_first s t d n m h out r k =
    let w : (pos 0 ≤ℤ n) × (n ≤ℤ d) = within_first s t d n m h r k in
    ⊎_elim (λ low. absurd (omega (arith, ints, low, w.0))) (λ high. absurd (omega (arith, ints, high, w.1))) out

pub apart_second : (s t : Segment) (d n m : ℤ) → AreShares s t d n m → (m <ℤ pos 0) ⊎ (d <ℤ m) → AreApart s t
apart_second s t d n m h out r k =
    let w : (pos 0 ≤ℤ m) × (m ≤ℤ d) = within_second s t d n m h r k in
    ⊎_elim (λ low. absurd (omega (arith, ints, low, w.0))) (λ high. absurd (omega (arith, ints, high, w.1))) out

-- ---- the one place

rational_of : (x y d : ℤ) → pos 0 <ℤ d → Rational
rational_of x y d h = record { x = x; y = y; d = d; above_zero = h }

one_place : (s t : Segment) (d n m : ℤ) (h : AreShares s t d n m) → place s n d h.above_zero ≡ place t m d h.above_zero
unfolding rational_of
one_place s t d n m h =
    ap (λ x. rational_of x (d *ℤ s.a.y +ℤ n *ℤ (s.b.y -ℤ s.a.y)) d h.above_zero) (one_place_x s t d n m h)
    ∙ ap (λ y. rational_of (d *ℤ t.a.x +ℤ m *ℤ (t.b.x -ℤ t.a.x)) y d h.above_zero) (one_place_y s t d n m h)

same_coordinate : (d x w a n u : ℤ) → d *ℤ (x -ℤ w *ℤ a) ≡ w *ℤ (n *ℤ u) → x *ℤ d ≡ (d *ℤ a +ℤ n *ℤ u) *ℤ w
same_coordinate d x w a n u e =
    same_by (num x ⊗ num d) ((num d ⊗ num a ⊕ num n ⊗ num u) ⊗ num w) (num (pos 1)) (num d ⊗ (num x ⊖ num w ⊗ num a)) (num w ⊗ (num n ⊗ num u)) e (omega arith)

pub only_place : (s t : Segment) (d n m : ℤ) (h : AreShares s t d n m) → pos 0 ≤ℤ n → n ≤ℤ d → pos 0 ≤ℤ m → m ≤ℤ d → IsOnlyShared s t (place s n d h.above_zero)
only_place s t d n m h low high low' high' =
    record {
      shared =
          record {
            on_first = place_on s n d h.above_zero low high;
            on_second = subst (λ r. IsOn t r) (sym (one_place s t d n m h)) (place_on t m d h.above_zero low' high');
          };
      only = λ q k.
          record {
            x = same_coordinate d q.x q.d s.a.x n (s.b.x -ℤ s.a.x) (first_x s t d n m h q k);
            y = same_coordinate d q.y q.d s.a.y n (s.b.y -ℤ s.a.y) (first_y s t d n m h q k);
          };
    }

pub only_same : (s t : Segment) (r q : Rational) → IsSame r q → IsOnlyShared s t r → IsOnlyShared s t q
only_same s t r q e o =
    record {
      shared = record { on_first = on_same s r q e o.shared.on_first; on_second = on_same t r q e o.shared.on_second };
      only = λ p k. same_trans p r q (o.only p k) e;
    }

pub end_same : (s : Segment) (r q : Rational) → IsSame r q → IsEnd s r → IsEnd s q
end_same s r q e =
    ⊎_elim (λ k. inl (same_trans q r (whole s.a) (same_sym r q e) k)) (λ k. inr (same_trans q r (whole s.b) (same_sym r q e) k))

-- ---- ends, or no ends

-- n parts of u are nothing only where n is 0
no_part : (a u d n : ℤ) → u ≢ pos 0 → (d *ℤ a +ℤ n *ℤ u) *ℤ pos 1 ≡ a *ℤ d → n ≡ pos 0
no_part a u d n step e =
    zero_product u n step (same_by (num u ⊗ num n) (num (pos 0)) (num (pos 1)) ((num d ⊗ num a ⊕ num n ⊗ num u) ⊗ num (pos 1)) (num a ⊗ num d) e (omega arith))

all_parts : (a b d n : ℤ) → b -ℤ a ≢ pos 0 → (d *ℤ a +ℤ n *ℤ (b -ℤ a)) *ℤ pos 1 ≡ b *ℤ d → n ≡ d
all_parts a b d n step e =
    let z : d -ℤ n ≡ pos 0 = zero_product (b -ℤ a) (d -ℤ n) step (same_by ((num b ⊖ num a) ⊗ (num d ⊖ num n)) (num (pos 0)) (num (pos 1)) (num b ⊗ num d) ((num d ⊗ num a ⊕ num n ⊗ (num b ⊖ num a)) ⊗ num (pos 1)) (sym e) (omega arith)) in
    omega (arith, ints, z)

pub no_end : (s : Segment) (d n : ℤ) (h : pos 0 <ℤ d) → n ≢ pos 0 → n ≢ d → ¬ IsEnd s (place s n d h)
no_end s d n h start finish end =
    ⊎_elim (λ step. ⊎_elim (λ e. start (no_part s.a.x (s.b.x -ℤ s.a.x) d n step e.x)) (λ e. finish (all_parts s.a.x s.b.x d n step e.x)) end)
    (λ step. ⊎_elim (λ e. start (no_part s.a.y (s.b.y -ℤ s.a.y) d n step.1 e.y)) (λ e. finish (all_parts s.a.y s.b.y d n step.1 e.y)) end)
    (some_step s)

end_place : (s : Segment) (d n : ℤ) (h : pos 0 <ℤ d) (p : Point) → IsEndAt s d n p → IsSame (place s n d h) (whole p)
end_place s d n h p =
    ⊎_elim (λ k. subst (λ q. IsSame (place s n d h) (whole q)) (sym k.0) (place_start s n d h k.1))
    (λ k. subst (λ q. IsSame (place s n d h) (whole q)) (sym k.0) (place_finish s n d h k.1))

is_end : (s : Segment) (d n : ℤ) (p : Point) → IsEndAt s d n p → IsEnd s (whole p)
is_end s d n p =
    ⊎_elim (λ k. inl (subst (λ q. IsSame (whole p) (whole q)) k.0 (same_refl (whole p)))) (λ k. inr (subst (λ q. IsSame (whole p) (whole q)) k.0 (same_refl (whole p))))

-- ---- the answers

pub at_ends : (s t : Segment) (d n m : ℤ) (h : AreShares s t d n m) → pos 0 ≤ℤ n → n ≤ℤ d → pos 0 ≤ℤ m → m ≤ℤ d → (p q : Point) → IsEndAt s d n p → IsEndAt t d m q → MeetAtEnds s t p
at_ends s t d n m h low high low' high' p q k k' =
    let first : IsSame (place s n d h.above_zero) (whole p) = end_place s d n h.above_zero p k in
    let second : IsSame (place s n d h.above_zero) (whole q) = subst (λ r. IsSame r (whole q)) (sym (one_place s t d n m h)) (end_place t d m h.above_zero q k') in
    record {
      only = only_same s t (place s n d h.above_zero) (whole p) first (only_place s t d n m h low high low' high');
      first_end = is_end s d n p k;
      second_end = end_same t (whole q) (whole p) (same_trans (whole q) (place s n d h.above_zero) (whole p) (same_sym (place s n d h.above_zero) (whole q) second) first) (is_end t d m q k');
    }

pub touch_first : (s t : Segment) (d n m : ℤ) (h : AreShares s t d n m) → pos 0 ≤ℤ n → n ≤ℤ d → pos 0 ≤ℤ m → m ≤ℤ d → (p : Point) → IsEndAt s d n p → m ≢ pos 0 → m ≢ d → IsTouch s t (whole p)
touch_first s t d n m h low high low' high' p k start finish =
    let first : IsSame (place s n d h.above_zero) (whole p) = end_place s d n h.above_zero p k in
    record {
      only = only_same s t (place s n d h.above_zero) (whole p) first (only_place s t d n m h low high low' high');
      one_end = inl (is_end s d n p k, λ e. no_end t d m h.above_zero start finish (subst (λ r. IsEnd t r) (one_place s t d n m h) (end_same t (whole p) (place s n d h.above_zero) (same_sym (place s n d h.above_zero) (whole p) first) e)));
      d = refl;
    }

pub touch_second : (s t : Segment) (d n m : ℤ) (h : AreShares s t d n m) → pos 0 ≤ℤ n → n ≤ℤ d → pos 0 ≤ℤ m → m ≤ℤ d → (q : Point) → n ≢ pos 0 → n ≢ d → IsEndAt t d m q → IsTouch s t (whole q)
touch_second s t d n m h low high low' high' q start finish k =
    let second : IsSame (place s n d h.above_zero) (whole q) = subst (λ r. IsSame r (whole q)) (sym (one_place s t d n m h)) (end_place t d m h.above_zero q k) in
    record {
      only = only_same s t (place s n d h.above_zero) (whole q) second (only_place s t d n m h low high low' high');
      one_end = inr (is_end t d m q k, λ e. no_end s d n h.above_zero start finish (end_same s (whole q) (place s n d h.above_zero) (same_sym (place s n d h.above_zero) (whole q) second) e));
      d = refl;
    }

absolute : (d c : ℤ) → pos 0 <ℤ d → (d ≡ c) ⊎ (neg_ℤ d ≡ c) → d ≡ pos (unsigned_abs c)
absolute d c h = ⊎_elim (λ e. omega (arith, ints, h, e)) (λ e. omega (arith, ints, h, e))

pub proper : (s t : Segment) (d n m : ℤ) (h : AreShares s t d n m) → pos 0 ≤ℤ n → n ≤ℤ d → pos 0 ≤ℤ m → m ≤ℤ d → n ≢ pos 0 → n ≢ d → m ≢ pos 0 → m ≢ d →
    (r : Rational) → r.x ≡ d *ℤ s.a.x +ℤ n *ℤ (s.b.x -ℤ s.a.x) → r.y ≡ d *ℤ s.a.y +ℤ n *ℤ (s.b.y -ℤ s.a.y) → r.d ≡ d → IsProper s t r
proper s t d n m h low high low' high' start finish start' finish' r ex ey ed =
    let place_r : IsSame (place s n d h.above_zero) r =
    record {
      x = ap (λ z. (d *ℤ s.a.x +ℤ n *ℤ (s.b.x -ℤ s.a.x)) *ℤ z) ed ∙ ap (λ z. z *ℤ d) (sym ex);
      y = ap (λ z. (d *ℤ s.a.y +ℤ n *ℤ (s.b.y -ℤ s.a.y)) *ℤ z) ed ∙ ap (λ z. z *ℤ d) (sym ey);
    } in
    let back : IsSame r (place s n d h.above_zero) = same_sym (place s n d h.above_zero) r place_r in
    record {
      only = only_same s t (place s n d h.above_zero) r place_r (only_place s t d n m h low high low' high');
      no_first_end = λ e. no_end s d n h.above_zero start finish (end_same s r (place s n d h.above_zero) back e);
      no_second_end = λ e. no_end t d m h.above_zero start' finish' (subst (λ q. IsEnd t q) (one_place s t d n m h) (end_same t r (place s n d h.above_zero) back e));
      d = ed ∙ absolute d (step_cross s.a s.b t.a t.b) h.above_zero (⊎_elim (λ k. inl k.whole) (λ k. inr k.whole) h.measured);
    }
