-- Rational points, and the segments that they lie on.
--     same_refl, same_sym, same_trans       two rational points as one place
--     on_same       a segment holds a place, however it is written
--     a_on, b_on       a segment holds its ends
--     place, place_on       the point that is n of d parts along a segment, and that it lies there
--     some_step       the ends of a segment differ in x or in y
use Rattle.std.proofs.Common.{◌≡◌, ◌≢◌, ◌⊎◌, inl, inr, ⊎_elim, ℤ, pos, ◌+ℤ◌, ◌-ℤ◌, ◌*ℤ◌, ◌<ℤ◌, ◌≤ℤ◌, ap, sym, subst, ◌∙◌, refl, arith}
use Rattle.std.proofs.lemmas.Int.{ints, by_lt_z}
use Rattle.tl_geom.specs.declared.point.Point.{Point}
use Rattle.tl_geom.specs.declared.rational.Rational.{Rational}
use Rattle.tl_geom.specs.declared.segment.Segment.{Segment}
use Rattle.tl_geom.specs.Plane.{IsOn, IsSame, IsBetween, cross, whole}
use Rattle.tl_geom.proofs.Polynomials.{num, ◌⊕◌, ◌⊖◌, ◌⊗◌, same, same_by_two}
use Rattle.tl_geom.proofs.Signs.{mono, cancel, cancel_le, sign}

-- ---- one place

pub same_refl : (r : Rational) → IsSame r r
same_refl r = record { x = refl; y = refl }

pub same_sym : (r q : Rational) → IsSame r q → IsSame q r
same_sym r q e = record { x = sym e.x; y = sym e.y }

-- x/d = x'/d' and x'/d' = x''/d''
chain : (x d x' d' x'' d'' : ℤ) → pos 0 <ℤ d' → x *ℤ d' ≡ x' *ℤ d → x' *ℤ d'' ≡ x'' *ℤ d' → x *ℤ d'' ≡ x'' *ℤ d
chain x d x' d' x'' d'' h e f =
    let k : d' *ℤ (x *ℤ d'') ≡ d' *ℤ (x'' *ℤ d) =
    same_by_two (num d' ⊗ (num x ⊗ num d'')) (num d' ⊗ (num x'' ⊗ num d)) (num d'') (num x ⊗ num d') (num x' ⊗ num d) (num d) (num x' ⊗ num d'') (num x'' ⊗ num d') e f (omega arith) in
    cancel d' (x *ℤ d'') (x'' *ℤ d) h k

pub same_trans : (r q p : Rational) → IsSame r q → IsSame q p → IsSame r p
same_trans r q p e f =
    record {
      x = chain r.x r.d q.x q.d p.x p.d q.above_zero e.x f.x;
      y = chain r.y r.d q.y q.d p.y p.d q.above_zero e.y f.y;
    }

-- ---- a place on a segment

-- scaled from x/d to x'/d', a stays on its side
bound_above : (a x d x' d' : ℤ) → pos 0 <ℤ d → pos 0 <ℤ d' → x *ℤ d' ≡ x' *ℤ d → (d *ℤ a) ≤ℤ x → (d' *ℤ a) ≤ℤ x'
bound_above a x d x' d' h h' e k =
    let m : (d' *ℤ (d *ℤ a)) ≤ℤ (d' *ℤ x) = mono d' (d *ℤ a) x (omega (arith, ints, h')) k in
    let p : d' *ℤ (d *ℤ a) ≡ d *ℤ (d' *ℤ a) = same (num d' ⊗ (num d ⊗ num a)) (num d ⊗ (num d' ⊗ num a)) (omega arith) in
    let q : d' *ℤ x ≡ d *ℤ x' = same (num d' ⊗ num x) (num x ⊗ num d') (omega arith) ∙ e ∙ same (num x' ⊗ num d) (num d ⊗ num x') (omega arith) in
    cancel_le d (d' *ℤ a) x' h (omega (arith, ints, m, p, q))

bound_below : (a x d x' d' : ℤ) → pos 0 <ℤ d → pos 0 <ℤ d' → x *ℤ d' ≡ x' *ℤ d → x ≤ℤ (d *ℤ a) → x' ≤ℤ (d' *ℤ a)
bound_below a x d x' d' h h' e k =
    let m : (d' *ℤ x) ≤ℤ (d' *ℤ (d *ℤ a)) = mono d' x (d *ℤ a) (omega (arith, ints, h')) k in
    let p : d' *ℤ (d *ℤ a) ≡ d *ℤ (d' *ℤ a) = same (num d' ⊗ (num d ⊗ num a)) (num d ⊗ (num d' ⊗ num a)) (omega arith) in
    let q : d' *ℤ x ≡ d *ℤ x' = same (num d' ⊗ num x) (num x ⊗ num d') (omega arith) ∙ e ∙ same (num x' ⊗ num d) (num d ⊗ num x') (omega arith) in
    cancel_le d x' (d' *ℤ a) h (omega (arith, ints, m, p, q))

between_same : (a b x d x' d' : ℤ) → pos 0 <ℤ d → pos 0 <ℤ d' → x *ℤ d' ≡ x' *ℤ d → IsBetween (d *ℤ a) (d *ℤ b) x → IsBetween (d' *ℤ a) (d' *ℤ b) x'
between_same a b x d x' d' h h' e =
    ⊎_elim (λ k. inl (bound_above a x d x' d' h h' e k.0, bound_below b x d x' d' h h' e k.1))
    (λ k. inr (bound_above b x d x' d' h h' e k.0, bound_below a x d x' d' h h' e k.1))

straight_same : (ux uy ax ay x y d x' y' d' : ℤ) → pos 0 <ℤ d → x *ℤ d' ≡ x' *ℤ d → y *ℤ d' ≡ y' *ℤ d →
    cross ux uy (x -ℤ d *ℤ ax) (y -ℤ d *ℤ ay) ≡ pos 0 → cross ux uy (x' -ℤ d' *ℤ ax) (y' -ℤ d' *ℤ ay) ≡ pos 0
straight_same ux uy ax ay x y d x' y' d' h e f g =
    let u = num ux in let v = num uy in
    let m : d *ℤ cross ux uy (x' -ℤ d' *ℤ ax) (y' -ℤ d' *ℤ ay) ≡ d' *ℤ cross ux uy (x -ℤ d *ℤ ax) (y -ℤ d *ℤ ay) =
    same_by_two (num d ⊗ (u ⊗ (num y' ⊖ num d' ⊗ num ay) ⊖ v ⊗ (num x' ⊖ num d' ⊗ num ax))) (num d' ⊗ (u ⊗ (num y ⊖ num d ⊗ num ay) ⊖ v ⊗ (num x ⊖ num d ⊗ num ax)))
    u (num y' ⊗ num d) (num y ⊗ num d') v (num x ⊗ num d') (num x' ⊗ num d) (sym f) e (omega arith) in
    cancel d (cross ux uy (x' -ℤ d' *ℤ ax) (y' -ℤ d' *ℤ ay)) (pos 0) h
    (m ∙ ap (λ z. d' *ℤ z) g ∙ same (num d' ⊗ num (pos 0)) (num d ⊗ num (pos 0)) (omega arith))

pub on_same : (s : Segment) (r q : Rational) → IsSame r q → IsOn s r → IsOn s q
on_same s r q e o =
    record {
      straight = straight_same (s.b.x -ℤ s.a.x) (s.b.y -ℤ s.a.y) s.a.x s.a.y r.x r.y r.d q.x q.y q.d r.above_zero e.x e.y o.straight;
      x_between = between_same s.a.x s.b.x r.x r.d q.x q.d r.above_zero q.above_zero e.x o.x_between;
      y_between = between_same s.a.y s.b.y r.y r.d q.y q.d r.above_zero q.above_zero e.y o.y_between;
    }

-- ---- parts of a segment

-- the point that is n of d parts along the segment
abbrev pub place : Segment → (n d : ℤ) → pos 0 <ℤ d → Rational
place s n d h =
    record { x = d *ℤ s.a.x +ℤ n *ℤ (s.b.x -ℤ s.a.x); y = d *ℤ s.a.y +ℤ n *ℤ (s.b.y -ℤ s.a.y); d = d; above_zero = h }

part_between : (a b n d : ℤ) → pos 0 ≤ℤ n → n ≤ℤ d → IsBetween (d *ℤ a) (d *ℤ b) (d *ℤ a +ℤ n *ℤ (b -ℤ a))
part_between a b n d h k =
    let rest : (d *ℤ b) -ℤ (d *ℤ a +ℤ n *ℤ (b -ℤ a)) ≡ (d -ℤ n) *ℤ (b -ℤ a) =
    same (num d ⊗ num b ⊖ (num d ⊗ num a ⊕ num n ⊗ (num b ⊖ num a))) ((num d ⊖ num n) ⊗ (num b ⊖ num a)) (omega arith) in
    by_lt_z b a
    (λ down. inr (let p : ((d -ℤ n) *ℤ (b -ℤ a)) ≤ℤ ((d -ℤ n) *ℤ pos 0) = mono (d -ℤ n) (b -ℤ a) (pos 0) (omega (arith, ints, k)) (omega (arith, ints, down)) in
    let q : (n *ℤ (b -ℤ a)) ≤ℤ (n *ℤ pos 0) = mono n (b -ℤ a) (pos 0) h (omega (arith, ints, down)) in
    let p0 : (d -ℤ n) *ℤ pos 0 ≡ pos 0 = same ((num d ⊖ num n) ⊗ num (pos 0)) (num (pos 0)) (omega arith) in
    let q0 : n *ℤ pos 0 ≡ pos 0 = same (num n ⊗ num (pos 0)) (num (pos 0)) (omega arith) in
    (omega (arith, ints, rest, p, p0), omega (arith, ints, q, q0))))
    (λ up. inl (let p : ((d -ℤ n) *ℤ pos 0) ≤ℤ ((d -ℤ n) *ℤ (b -ℤ a)) = mono (d -ℤ n) (pos 0) (b -ℤ a) (omega (arith, ints, k)) (omega (arith, ints, up)) in
    let q : (n *ℤ pos 0) ≤ℤ (n *ℤ (b -ℤ a)) = mono n (pos 0) (b -ℤ a) h (omega (arith, ints, up)) in
    let p0 : (d -ℤ n) *ℤ pos 0 ≡ pos 0 = same ((num d ⊖ num n) ⊗ num (pos 0)) (num (pos 0)) (omega arith) in
    let q0 : n *ℤ pos 0 ≡ pos 0 = same (num n ⊗ num (pos 0)) (num (pos 0)) (omega arith) in
    (omega (arith, ints, q, q0), omega (arith, ints, rest, p, p0))))

pub part_straight : (ux uy ax ay n d : ℤ) → cross ux uy (d *ℤ ax +ℤ n *ℤ ux -ℤ d *ℤ ax) (d *ℤ ay +ℤ n *ℤ uy -ℤ d *ℤ ay) ≡ pos 0
part_straight ux uy ax ay n d =
    let u = num ux in let v = num uy in let m = num d in let k = num n in
    same (u ⊗ (m ⊗ num ay ⊕ k ⊗ v ⊖ m ⊗ num ay) ⊖ v ⊗ (m ⊗ num ax ⊕ k ⊗ u ⊖ m ⊗ num ax)) (num (pos 0)) (omega arith)

pub place_on : (s : Segment) (n d : ℤ) (h : pos 0 <ℤ d) → pos 0 ≤ℤ n → n ≤ℤ d → IsOn s (place s n d h)
place_on s n d h low high =
    record {
      straight = part_straight (s.b.x -ℤ s.a.x) (s.b.y -ℤ s.a.y) s.a.x s.a.y n d;
      x_between = part_between s.a.x s.b.x n d low high;
      y_between = part_between s.a.y s.b.y n d low high;
    }

-- ---- the ends

start_same : (a u d : ℤ) → (d *ℤ a +ℤ pos 0 *ℤ u) *ℤ pos 1 ≡ a *ℤ d
start_same a u d = same ((num d ⊗ num a ⊕ num (pos 0) ⊗ num u) ⊗ num (pos 1)) (num a ⊗ num d) (omega arith)

finish_same : (a b d : ℤ) → (d *ℤ a +ℤ d *ℤ (b -ℤ a)) *ℤ pos 1 ≡ b *ℤ d
finish_same a b d = same ((num d ⊗ num a ⊕ num d ⊗ (num b ⊖ num a)) ⊗ num (pos 1)) (num b ⊗ num d) (omega arith)

-- no part along a segment is its first end, and all of the parts are its last
pub place_start : (s : Segment) (n d : ℤ) (h : pos 0 <ℤ d) → n ≡ pos 0 → IsSame (place s n d h) (whole s.a)
place_start s n d h e =
    subst (λ (n : ℤ). IsSame (place s n d h) (whole s.a)) (sym e)
    (record { x = start_same s.a.x (s.b.x -ℤ s.a.x) d; y = start_same s.a.y (s.b.y -ℤ s.a.y) d })

pub place_finish : (s : Segment) (n d : ℤ) (h : pos 0 <ℤ d) → n ≡ d → IsSame (place s n d h) (whole s.b)
place_finish s n d h e =
    subst (λ (n : ℤ). IsSame (place s n d h) (whole s.b)) (sym e)
    (record { x = finish_same s.a.x s.b.x d; y = finish_same s.a.y s.b.y d })

one : pos 0 <ℤ pos 1
one = omega (arith, ints)

pub a_on : (s : Segment) → IsOn s (whole s.a)
a_on s =
    on_same s (place s (pos 0) (pos 1) one) (whole s.a) (place_start s (pos 0) (pos 1) one refl)
    (place_on s (pos 0) (pos 1) one (omega (arith, ints)) (omega (arith, ints)))

pub b_on : (s : Segment) → IsOn s (whole s.b)
b_on s =
    on_same s (place s (pos 1) (pos 1) one) (whole s.b) (place_finish s (pos 1) (pos 1) one refl)
    (place_on s (pos 1) (pos 1) one (omega (arith, ints)) (omega (arith, ints)))

-- two whole points that are one place are one point
one_by : (a b : ℤ) → a *ℤ pos 1 ≡ b *ℤ pos 1 → a ≡ b
one_by a b e = same (num a) (num a ⊗ num (pos 1)) (omega arith) ∙ e ∙ same (num b ⊗ num (pos 1)) (num b) (omega arith)

point_of : (x y : ℤ) → Point
point_of x y = record { x = x; y = y }

pub point_same : (p q : Point) → p.x ≡ q.x → p.y ≡ q.y → p ≡ q
unfolding point_of
point_same p q e f = ap (λ x. point_of x p.y) e ∙ ap (λ y. point_of q.x y) f

pub whole_same : (p q : Point) → IsSame (whole p) (whole q) → p ≡ q
whole_same p q e = point_same p q (one_by p.x q.x e.x) (one_by p.y q.y e.y)

-- the ends of a segment differ in x or in y
pub some_step : (s : Segment) → (s.b.x -ℤ s.a.x ≢ pos 0) ⊎ ((s.b.x -ℤ s.a.x ≡ pos 0) × (s.b.y -ℤ s.a.y ≢ pos 0))
some_step s =
    ⊎_elim (λ h. inl (λ e. absurd (omega (arith, ints, h, e))))
    (λ w. ⊎_elim (λ level. inr (level, λ e. s.different (point_same s.a s.b (omega (arith, ints, level)) (omega (arith, ints, e)))))
    (λ h. inl (λ e. absurd (omega (arith, ints, h, e)))) w)
    (sign (s.b.x -ℤ s.a.x))
