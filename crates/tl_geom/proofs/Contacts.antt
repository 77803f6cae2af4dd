-- What the clauses of a contact say, from what its answer says of the segments.
use Rattle.std.proofs.Common.{◌≡◌, inl, inr, ⊎_elim, ◌↔◌, ℤ, pos, ◌+ℤ◌, ◌-ℤ◌, ◌*ℤ◌, ◌<ℤ◌, ap, sym, subst, ◌∙◌, refl, arith}
use Rattle.std.proofs.lemmas.Int.{ints}
use Rattle.tl_geom.specs.declared.point.Point.{Point}
use Rattle.tl_geom.specs.declared.rational.Rational.{Rational}
use Rattle.tl_geom.specs.declared.segment.Segment.{Segment}
use Rattle.tl_geom.specs.declared.shared.Contact.{Contact}
use Rattle.tl_geom.specs.declared.shared.Contact.TheVariants.{Apart, AtEnds, Crossing}
use Rattle.tl_geom.specs.Plane.{IsOn, IsSame, IsBetween, whole}
use Rattle.tl_geom.specs.Contact.{IsShared, IsEnd, AreApart, MeetAtEnds, IsMiddle, IsCrossing, AreBothEnded, IfCrossing, IsContact}
use Rattle.tl_geom.proofs.Polynomials.{num, ◌⊕◌, ◌⊖◌, ◌⊗◌, same}
use Rattle.tl_geom.proofs.Places.{place, place_on, on_same, same_sym, whole_same, point_same, a_on, b_on}
use Rattle.tl_geom.proofs.Crossings.{end_same}

-- ---- the middle of an overlap

half : (a b x d : ℤ) → x ≡ a +ℤ b → d ≡ pos 2 → (pos 2 *ℤ a +ℤ pos 1 *ℤ (b -ℤ a)) *ℤ d ≡ x *ℤ pos 2
half a b x d e f =
    ap (λ z. (pos 2 *ℤ a +ℤ pos 1 *ℤ (b -ℤ a)) *ℤ z) f
    ∙ same ((num (pos 2) ⊗ num a ⊕ num (pos 1) ⊗ (num b ⊖ num a)) ⊗ num (pos 2)) ((num a ⊕ num b) ⊗ num (pos 2)) (omega arith) ∙ ap (λ z. z *ℤ pos 2) (sym e)

two : pos 0 <ℤ pos 2
two = omega (arith, ints)

middle_shared : (s t : Segment) (r : Rational) → IsMiddle s t r → IsShared s t r
middle_shared s t r m =
    (m.is_overlap.points r).1
    (on_same m.overlap (place m.overlap (pos 1) (pos 2) two) r
    (record { x = half m.overlap.a.x m.overlap.b.x r.x r.d m.x m.d; y = half m.overlap.a.y m.overlap.b.y r.y r.d m.y m.d })
    (place_on m.overlap (pos 1) (pos 2) two (omega (arith, ints)) (omega (arith, ints))))

-- two numbers from a to b whose middle is a are one number
squeezed : (a b p q : ℤ) → IsBetween (pos 1 *ℤ a) (pos 1 *ℤ b) p → IsBetween (pos 1 *ℤ a) (pos 1 *ℤ b) q → p +ℤ q ≡ a +ℤ a → p ≡ q
squeezed a b p q h k e =
    ⊎_elim (λ h. ⊎_elim (λ k. omega (arith, ints, h.0, h.1, k.0, k.1, e)) (λ k. omega (arith, ints, h.0, h.1, k.0, k.1, e)) k)
    (λ h. ⊎_elim (λ k. omega (arith, ints, h.0, h.1, k.0, k.1, e)) (λ k. omega (arith, ints, h.0, h.1, k.0, k.1, e)) k) h

pub exchanged : (p q v : ℤ) → IsBetween p q v → IsBetween q p v
exchanged p q v = ⊎_elim (λ k. inr k) (λ k. inl k)

twice : (x d a p q : ℤ) → x *ℤ pos 1 ≡ a *ℤ d → x ≡ p +ℤ q → d ≡ pos 2 → p +ℤ q ≡ a +ℤ a
twice x d a p q e f g =
    sym f ∙ same (num x) (num x ⊗ num (pos 1)) (omega arith) ∙ e ∙ ap (λ z. a *ℤ z) g ∙ same (num a ⊗ num (pos 2)) (num a ⊕ num a) (omega arith)

middle_no_end : (s t : Segment) (r : Rational) → IsMiddle s t r → ¬ IsEnd s r
middle_no_end s t r m =
    let first : IsOn s (whole m.overlap.a) = ((m.is_overlap.points (whole m.overlap.a)).1 (a_on m.overlap)).on_first in
    let last : IsOn s (whole m.overlap.b) = ((m.is_overlap.points (whole m.overlap.b)).1 (b_on m.overlap)).on_first in
    ⊎_elim
    (λ e. m.overlap.different (point_same m.overlap.a m.overlap.b
    (squeezed s.a.x s.b.x m.overlap.a.x m.overlap.b.x first.x_between last.x_between (twice r.x r.d s.a.x m.overlap.a.x m.overlap.b.x e.x m.x m.d))
    (squeezed s.a.y s.b.y m.overlap.a.y m.overlap.b.y first.y_between last.y_between (twice r.y r.d s.a.y m.overlap.a.y m.overlap.b.y e.y m.y m.d))))
    (λ e. m.overlap.different (point_same m.overlap.a m.overlap.b
    (squeezed s.b.x s.a.x m.overlap.a.x m.overlap.b.x (exchanged (pos 1 *ℤ s.a.x) (pos 1 *ℤ s.b.x) m.overlap.a.x first.x_between) (exchanged (pos 1 *ℤ s.a.x) (pos 1 *ℤ s.b.x) m.overlap.b.x last.x_between) (twice r.x r.d s.b.x m.overlap.a.x m.overlap.b.x e.x m.x m.d))
    (squeezed s.b.y s.a.y m.overlap.a.y m.overlap.b.y (exchanged (pos 1 *ℤ s.a.y) (pos 1 *ℤ s.b.y) m.overlap.a.y first.y_between) (exchanged (pos 1 *ℤ s.a.y) (pos 1 *ℤ s.b.y) m.overlap.b.y last.y_between) (twice r.y r.d s.b.y m.overlap.a.y m.overlap.b.y e.y m.y m.d))))

-- ---- a crossing

pub crossing_shared : (s t : Segment) (r : Rational) → IsCrossing s t r → IsShared s t r
crossing_shared s t r = ⊎_elim (λ m. middle_shared s t r m) (λ w. ⊎_elim (λ k. k.only.shared) (λ k. k.only.shared) w)

pub crossing_not_both : (s t : Segment) (r : Rational) → IsCrossing s t r → ¬ AreBothEnded s t r
crossing_not_both s t r c e =
    ⊎_elim (λ m. middle_no_end s t r m e.0) (λ w. ⊎_elim (λ k. ⊎_elim (λ one. one.1 e.1) (λ one. one.1 e.0) k.one_end) (λ k. k.no_first_end e.0) w) c

-- ---- the clauses

pub apart_clause : (s t : Segment) (c : Contact) → IsContact s t c → (c ≡ Apart) ↔ AreApart s t
apart_clause s t Apart k = (λ e. k, λ h. refl)
apart_clause s t (AtEnds p) k = (λ e. absurd (cc), λ h. absurd (h (whole p) k.only.shared))
apart_clause s t (Crossing r) k = (λ e. absurd (cc), λ h. absurd (h r (crossing_shared s t r k)))

at_ends_one : (p q : Point) → AtEnds p ≡ AtEnds q → p ≡ q
at_ends_one p q e = cc

pub at_ends_clause : (s t : Segment) (c : Contact) → IsContact s t c → (p : Point) → (c ≡ AtEnds p) ↔ MeetAtEnds s t p
at_ends_clause s t Apart k p = (λ e. absurd (cc), λ m. absurd (k (whole p) m.only.shared))
at_ends_clause s t (AtEnds q) k p = (
  λ e. subst (λ p. MeetAtEnds s t p) (at_ends_one q p e) k,
  λ m. ap AtEnds (whole_same q p (m.only.only (whole q) k.only.shared)),
)
at_ends_clause s t (Crossing r) k p = (
  λ e. absurd (cc),
  λ m.
      let e : IsSame (whole p) r = same_sym r (whole p) (m.only.only r (crossing_shared s t r k)) in
      absurd (crossing_not_both s t r k (end_same s (whole p) r e m.first_end, end_same t (whole p) r e m.second_end)),
)

pub shared_clause : (s t : Segment) (c : Contact) → IsContact s t c → IfCrossing c (IsShared s t)
shared_clause s t Apart k = tt
shared_clause s t (AtEnds p) k = tt
shared_clause s t (Crossing r) k = crossing_shared s t r k

pub not_both_clause : (s t : Segment) (c : Contact) → IsContact s t c → IfCrossing c (λ r. ¬ AreBothEnded s t r)
not_both_clause s t Apart k = tt
not_both_clause s t (AtEnds p) k = tt
not_both_clause s t (Crossing r) k = crossing_not_both s t r k

pub crossing_clause : (s t : Segment) (c : Contact) → IsContact s t c → IfCrossing c (IsCrossing s t)
crossing_clause s t Apart k = tt
crossing_clause s t (AtEnds p) k = tt
crossing_clause s t (Crossing r) k = k
