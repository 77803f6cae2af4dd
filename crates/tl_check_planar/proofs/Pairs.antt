-- Two segments that may share some points, two at most: what their contact says, and which end of their overlap is refused.
use Rattle.std.proofs.Common.{◌≡◌, ◌⊎◌, inl, inr, ⊎_elim, ℤ, pos, ◌+ℤ◌, ◌*ℤ◌, Option, Some, None, ap, sym, subst, ◌∙◌, refl, arith}
use Rattle.std.proofs.lemmas.Int.{ints}
use Rattle.tl_geom.specs.declared.point.Point.{Point}
use Rattle.tl_geom.specs.declared.rational.Rational.{Rational}
use Rattle.tl_geom.specs.declared.segment.Segment.{Segment}
use Rattle.tl_geom.specs.Plane.{IsOn, IsSame, IsBetween, whole}
use Rattle.tl_geom.specs.Contact.{IsShared, IsOnlyShared, IsOverlap, MeetAtEnds, IsMiddle, IsCrossing}
use Rattle.tl_geom.proofs.Polynomials.{num, ◌⊕◌, ◌⊗◌, same}
use Rattle.tl_geom.proofs.Places.{a_on, b_on, same_sym, same_trans, point_same, whole_same}
use Rattle.tl_geom.proofs.Contacts.{crossing_shared}
use Rattle.tl_geom.proofs.NoOverlaps.{only_no_overlap}
use Rattle.tl_check_planar.specs.declared.allowed.Allowed.{Allowed}
use Rattle.tl_check_planar.specs.Keeping.Allowing.{IsAt, IsOneOf, IsRefused}

-- ---- places

pub at_same : (o : Option Point) (r q : Rational) → IsSame r q → IsAt o r → IsAt o q
at_same None r q e h = h
at_same (Some p) r q e h = same_trans q r (whole p) (same_sym r q e) h

pub one_of_same : (allowed : Allowed) (r q : Rational) → IsSame r q → IsOneOf allowed r → IsOneOf allowed q
one_of_same allowed r q e = ⊎_elim (λ h. inl (at_same allowed.one r q e h)) (λ h. inr (at_same allowed.other r q e h))

at_one : (o : Option Point) (r q : Rational) → IsAt o r → IsAt o q → IsSame r q
at_one None r q h k = absurd h
at_one (Some p) r q h k = same_trans r (whole p) q h (same_sym q (whole p) k)

-- of three places one is not allowed
one_refused : (allowed : Allowed) (m p q : Rational) → ¬ IsSame m p → ¬ IsSame m q → ¬ IsSame p q → IsOneOf allowed m → IsOneOf allowed p → ¬ IsOneOf allowed q
one_refused allowed m p q mp mq pq hm hp hq =
    ⊎_elim
    (λ a. ⊎_elim (λ b. mp (at_one allowed.one m p a b)) (λ b. ⊎_elim (λ c. mq (at_one allowed.one m q a c)) (λ c. pq (at_one allowed.other p q b c)) hq) hp)
    (λ a. ⊎_elim (λ b. ⊎_elim (λ c. pq (at_one allowed.one p q b c)) (λ c. mq (at_one allowed.other m q a c)) hq) (λ b. mp (at_one allowed.other m p a b)) hp)
    hm

-- ---- two segments that are one overlap have one middle

sum_between : (a b p q : ℤ) → IsBetween (pos 1 *ℤ a) (pos 1 *ℤ b) p → IsBetween (pos 1 *ℤ a) (pos 1 *ℤ b) q → IsBetween (pos 1 *ℤ p) (pos 1 *ℤ q) a → IsBetween (pos 1 *ℤ p) (pos 1 *ℤ q) b → p +ℤ q ≡ a +ℤ b
sum_between a b p q h k l m =
    ⊎_elim (λ h. ⊎_elim (λ k. ⊎_elim (λ l. ⊎_elim (λ m. omega (arith, ints, h.0, h.1, k.0, k.1, l.0, l.1, m.0, m.1)) (λ m. omega (arith, ints, h.0, h.1, k.0, k.1, l.0, l.1, m.0, m.1)) m) (λ l. ⊎_elim (λ m. omega (arith, ints, h.0, h.1, k.0, k.1, l.0, l.1, m.0, m.1)) (λ m. omega (arith, ints, h.0, h.1, k.0, k.1, l.0, l.1, m.0, m.1)) m) l) (λ k. ⊎_elim (λ l. ⊎_elim (λ m. omega (arith, ints, h.0, h.1, k.0, k.1, l.0, l.1, m.0, m.1)) (λ m. omega (arith, ints, h.0, h.1, k.0, k.1, l.0, l.1, m.0, m.1)) m) (λ l. ⊎_elim (λ m. omega (arith, ints, h.0, h.1, k.0, k.1, l.0, l.1, m.0, m.1)) (λ m. omega (arith, ints, h.0, h.1, k.0, k.1, l.0, l.1, m.0, m.1)) m) l) k) (λ h. ⊎_elim (λ k. ⊎_elim (λ l. ⊎_elim (λ m. omega (arith, ints, h.0, h.1, k.0, k.1, l.0, l.1, m.0, m.1)) (λ m. omega (arith, ints, h.0, h.1, k.0, k.1, l.0, l.1, m.0, m.1)) m) (λ l. ⊎_elim (λ m. omega (arith, ints, h.0, h.1, k.0, k.1, l.0, l.1, m.0, m.1)) (λ m. omega (arith, ints, h.0, h.1, k.0, k.1, l.0, l.1, m.0, m.1)) m) l) (λ k. ⊎_elim (λ l. ⊎_elim (λ m. omega (arith, ints, h.0, h.1, k.0, k.1, l.0, l.1, m.0, m.1)) (λ m. omega (arith, ints, h.0, h.1, k.0, k.1, l.0, l.1, m.0, m.1)) m) (λ l. ⊎_elim (λ m. omega (arith, ints, h.0, h.1, k.0, k.1, l.0, l.1, m.0, m.1)) (λ m. omega (arith, ints, h.0, h.1, k.0, k.1, l.0, l.1, m.0, m.1)) m) l) k) h

-- the ends of two segments that hold the same rational points
record HoldSame (o u : Segment) : Type 0 where
  first : IsOn u (whole o.a)
  last : IsOn u (whole o.b)
  first' : IsOn o (whole u.a)
  last' : IsOn o (whole u.b)

hold_same : (s t o u : Segment) → IsOverlap s t o → IsOverlap s t u → HoldSame o u
hold_same s t o u k l =
    record {
      first = (l.points (whole o.a)).0 ((k.points (whole o.a)).1 (a_on o));
      last = (l.points (whole o.b)).0 ((k.points (whole o.b)).1 (b_on o));
      first' = (k.points (whole u.a)).0 ((l.points (whole u.a)).1 (a_on u));
      last' = (k.points (whole u.b)).0 ((l.points (whole u.b)).1 (b_on u));
    }

sum_x : (o u : Segment) → HoldSame o u → o.a.x +ℤ o.b.x ≡ u.a.x +ℤ u.b.x
sum_x o u h = sum_between u.a.x u.b.x o.a.x o.b.x h.first.x_between h.last.x_between h.first'.x_between h.last'.x_between

sum_y : (o u : Segment) → HoldSame o u → o.a.y +ℤ o.b.y ≡ u.a.y +ℤ u.b.y
sum_y o u h = sum_between u.a.y u.b.y o.a.y o.b.y h.first.y_between h.last.y_between h.first'.y_between h.last'.y_between

-- the middle is at no end
at_middle : (x d a p q : ℤ) → x *ℤ pos 1 ≡ a *ℤ d → x ≡ p +ℤ q → d ≡ pos 2 → a +ℤ a ≡ p +ℤ q
at_middle x d a p q e f g =
    same (num a ⊕ num a) (num a ⊗ num (pos 2)) (omega arith) ∙ ap (λ z. a *ℤ z) (sym g) ∙ sym e ∙ same (num x ⊗ num (pos 1)) (num x) (omega arith) ∙ f

first_no_middle : (s t o : Segment) (m : Rational) → IsOverlap s t o → IsMiddle s t m → ¬ IsSame m (whole o.a)
first_no_middle s t o m k w e =
    let h : HoldSame o w.overlap = hold_same s t o w.overlap k w.is_overlap in
    let x : o.a.x +ℤ o.a.x ≡ w.overlap.a.x +ℤ w.overlap.b.x = at_middle m.x m.d o.a.x w.overlap.a.x w.overlap.b.x e.x w.x w.d in
    let y : o.a.y +ℤ o.a.y ≡ w.overlap.a.y +ℤ w.overlap.b.y = at_middle m.y m.d o.a.y w.overlap.a.y w.overlap.b.y e.y w.y w.d in
    o.different (point_same o.a o.b (omega (arith, ints, x, sum_x o w.overlap h)) (omega (arith, ints, y, sum_y o w.overlap h)))

last_no_middle : (s t o : Segment) (m : Rational) → IsOverlap s t o → IsMiddle s t m → ¬ IsSame m (whole o.b)
last_no_middle s t o m k w e =
    let h : HoldSame o w.overlap = hold_same s t o w.overlap k w.is_overlap in
    let x : o.b.x +ℤ o.b.x ≡ w.overlap.a.x +ℤ w.overlap.b.x = at_middle m.x m.d o.b.x w.overlap.a.x w.overlap.b.x e.x w.x w.d in
    let y : o.b.y +ℤ o.b.y ≡ w.overlap.a.y +ℤ w.overlap.b.y = at_middle m.y m.d o.b.y w.overlap.a.y w.overlap.b.y e.y w.y w.d in
    o.different (point_same o.a o.b (omega (arith, ints, x, sum_x o w.overlap h)) (omega (arith, ints, y, sum_y o w.overlap h)))

-- ---- the answers

pub ends_free : (s t : Segment) (allowed : Allowed) (p : Point) → MeetAtEnds s t p → IsOneOf allowed (whole p) → (r : Rational) → IsShared s t r → IsOneOf allowed r
ends_free s t allowed p k h r shared = one_of_same allowed (whole p) r (same_sym r (whole p) (k.only.only r shared)) h

pub ends_refused : (s t : Segment) (allowed : Allowed) (p : Point) → MeetAtEnds s t p → ¬ IsOneOf allowed (whole p) → IsRefused s t allowed (whole p)
ends_refused s t allowed p k refused = record { shared = k.only.shared; refused = refused; by = inl (inl (p, k, refl)) }

pub crossing_refused : (s t : Segment) (allowed : Allowed) (r : Rational) → IsCrossing s t r → ¬ IsOneOf allowed r → IsRefused s t allowed r
crossing_refused s t allowed r k refused = record { shared = crossing_shared s t r k; refused = refused; by = inl (inr k) }

-- without an overlap the point of a crossing is the only one
only_free : (s t : Segment) (allowed : Allowed) (m : Rational) → IsOnlyShared s t m → IsOneOf allowed m → (r : Rational) → IsShared s t r → IsOneOf allowed r
only_free s t allowed m k h r shared = one_of_same allowed m r (same_sym r m (k.only r shared)) h

pub crossing_free : (s t : Segment) (allowed : Allowed) (m : Rational) → ((o : Segment) → ¬ IsOverlap s t o) → IsCrossing s t m → IsOneOf allowed m → (r : Rational) → IsShared s t r → IsOneOf allowed r
crossing_free s t allowed m none k h =
    ⊎_elim (λ w. absurd (none w.overlap w.is_overlap)) (λ w. ⊎_elim (λ v. only_free s t allowed m v.only h) (λ v. only_free s t allowed m v.only h) w) k

-- with an overlap one of its ends is refused
pub overlap_refused : (s t : Segment) (allowed : Allowed) (m : Rational) (o : Segment) (p : Point) → IsOverlap s t o → IsCrossing s t m → IsOneOf allowed m →
    ((p ≡ o.a) × ¬ IsOneOf allowed (whole o.a)) ⊎ ((p ≡ o.b) × IsOneOf allowed (whole o.a)) → IsRefused s t allowed (whole p)
overlap_refused s t allowed m o p k crossing h choice =
    ⊎_elim
    (λ w. ⊎_elim
    (λ c. record { shared = subst (λ z. IsShared s t (whole z)) (sym c.0) ((k.points (whole o.a)).1 (a_on o)); refused = subst (λ z. ¬ IsOneOf allowed (whole z)) (sym c.0) c.1; by = inr (m, inr crossing, h) })
    (λ c. record {
      shared = subst (λ z. IsShared s t (whole z)) (sym c.0) ((k.points (whole o.b)).1 (b_on o));
      refused = subst (λ z. ¬ IsOneOf allowed (whole z)) (sym c.0) (one_refused allowed m (whole o.a) (whole o.b) (first_no_middle s t o m k w) (last_no_middle s t o m k w) (λ e. o.different (whole_same o.a o.b e)) h c.1);
      by = inr (m, inr crossing, h);
    }) choice)
    (λ w. ⊎_elim (λ v. absurd (only_no_overlap s t m v.only o k)) (λ v. absurd (only_no_overlap s t m v.only o k)) w)
    crossing
