-- Of two segments that are apart or share an end of both alone, one that is west of the other at one height is west by both tests.
--     crossed       they don't have the ends of each on both sides of the other
--     west_at       what is strictly west at the height of a point is west
--     west_from       of two that begin at one point, the first is west where the second's high end isn't west of it
use Rattle.std.proofs.Common.{◌≡◌, ◌≢◌, ◌⊎◌, inl, inr, ⊎_elim, ℤ, pos, ◌-ℤ◌, ◌<ℤ◌, ◌≤ℤ◌, ap, sym, subst, refl, arith}
use Rattle.std.proofs.lemmas.Int.{ints, by_lt_z}
use Rattle.tl_geom.specs.declared.point.Point.{Point}
use Rattle.tl_geom.specs.declared.rational.Rational.{Rational}
use Rattle.tl_geom.specs.declared.segment.Segment.{Segment}
use Rattle.tl_geom.specs.Plane.{IsOn, IsSame, whole, step_cross, turn_of}
use Rattle.tl_geom.specs.Contact.{IsShared, IsEnd, MeetAtEnds}
use Rattle.tl_geom.specs.Keeping.Lines.{AreShares}
use Rattle.tl_geom.proofs.Polynomials.{num, ◌⊖◌, ◌⊗◌, same}
use Rattle.tl_geom.proofs.Places.{place, same_sym}
use Rattle.tl_geom.proofs.Crossings.{only_place, end_same, no_end}
use Rattle.tl_check_planar.specs.ByHeight.Heights.{height, AreNear, low_end, high_end, turn_to, turn_at, Spans}
use Rattle.tl_check_planar.specs.ByHeight.Neighbours.{IsWestOf, AreApartOrAtEnds}
use Rattle.tl_check_planar.proofs.ByHeight.Order.{turn_whole, turn_first}
use Rattle.tl_check_planar.proofs.ByHeight.Rising.{AreEndsOf, ends_of}
use Rattle.tl_check_planar.proofs.ByHeight.Lying.{by_low}
use Rattle.tl_check_planar.proofs.ByHeight.Transport.{strictly_west, strictly_east}

-- ---- the cross product of the steps from a to b and from c to e, by turns to the four points

across : (a b c e : Point) → turn_of c e a -ℤ turn_of c e b ≡ step_cross a b c e
across a b c e =
    let ux = num e.x ⊖ num c.x in let uy = num e.y ⊖ num c.y in
    same (ux ⊗ (num a.y ⊖ num c.y) ⊖ uy ⊗ (num a.x ⊖ num c.x) ⊖ (ux ⊗ (num b.y ⊖ num c.y) ⊖ uy ⊗ (num b.x ⊖ num c.x)))
    ((num b.x ⊖ num a.x) ⊗ uy ⊖ (num b.y ⊖ num a.y) ⊗ ux) (omega arith)

along : (a b c e : Point) → turn_of a b e -ℤ turn_of a b c ≡ step_cross a b c e
along a b c e =
    let ux = num b.x ⊖ num a.x in let uy = num b.y ⊖ num a.y in
    same (ux ⊗ (num e.y ⊖ num a.y) ⊖ uy ⊗ (num e.x ⊖ num a.x) ⊖ (ux ⊗ (num c.y ⊖ num a.y) ⊖ uy ⊗ (num c.x ⊖ num a.x)))
    (ux ⊗ (num e.y ⊖ num c.y) ⊖ uy ⊗ (num e.x ⊖ num c.x)) (omega arith)

back_to : (a b c : Point) → step_cross a b c a ≡ pos 0 -ℤ turn_of a b c
back_to a b c =
    let ux = num b.x ⊖ num a.x in let uy = num b.y ⊖ num a.y in
    same (ux ⊗ (num a.y ⊖ num c.y) ⊖ uy ⊗ (num a.x ⊖ num c.x)) (num (pos 0) ⊖ (ux ⊗ (num c.y ⊖ num a.y) ⊖ uy ⊗ (num c.x ⊖ num a.x))) (omega arith)

-- ---- two segments that have the ends of each on both sides of the other share a place that is no end

inside : (s t : Segment) (d n m : ℤ) → AreShares s t d n m → pos 0 <ℤ n → n <ℤ d → pos 0 <ℤ m → m <ℤ d → ¬ ((r : Rational) → IsShared s t r → IsEnd s r)
inside s t d n m h low high low' high' ends =
    no_end s d n h.above_zero (λ e. omega (arith, ints, low, e)) (λ e. omega (arith, ints, high, e))
    (ends (place s n d h.above_zero)
    (only_place s t d n m h (omega (arith, ints, low)) (omega (arith, ints, high)) (omega (arith, ints, low')) (omega (arith, ints, high'))).shared)

-- the shares of the two, by the four turns
shares_within : (f f' g g' d m : ℤ) → f -ℤ f' ≡ d → g' -ℤ g ≡ d → m ≡ pos 0 -ℤ g → pos 0 <ℤ f → f' <ℤ pos 0 → g <ℤ pos 0 → pos 0 <ℤ g' →
    (pos 0 <ℤ d) × (f <ℤ d) × (pos 0 <ℤ m) × (m <ℤ d)
shares_within f f' g g' d m first second back low high low' high' = (
  omega (arith, ints, first, low, high),
  omega (arith, ints, first, high),
  omega (arith, ints, back, low'),
  omega (arith, ints, second, back, high'),
)

share_inside : (s t : Segment) → pos 0 <ℤ turn_of t.a t.b s.a → turn_of t.a t.b s.b <ℤ pos 0 → turn_of s.a s.b t.a <ℤ pos 0 → pos 0 <ℤ turn_of s.a s.b t.b →
    ¬ ((r : Rational) → IsShared s t r → IsEnd s r)
share_inside s t low high low' high' =
    let d = step_cross s.a s.b t.a t.b in
    let n = step_cross t.a t.b t.a s.a in
    let m = step_cross s.a s.b t.a s.a in
    let k = shares_within n (turn_of t.a t.b s.b) (turn_of s.a s.b t.a) (turn_of s.a s.b t.b) d m
    (across s.a s.b t.a t.b) (along s.a s.b t.a t.b) (back_to s.a s.b t.a) low high low' high' in
    inside s t d n m (record { above_zero = k.0; measured = inl (record { whole = refl; first = refl; second = refl }) }) low k.1 k.2 k.3

-- ---- a segment as it goes up

module _ (K : ℤ) (s : Segment) (near : AreNear K s.a s.b) where
  own_ends : AreEndsOf K s (low_end K s) (high_end K s)
  own_ends = ends_of K s near

  ends_differ : low_end K s ≢ high_end K s
  ends_differ e =
      let rising = own_ends.rising in
      let level : height K (low_end K s) ≡ height K (high_end K s) = ap (height K) e in
      omega (arith, ints, rising, level)

  -- from the low end to the high one
  abbrev upward : Segment
  upward = record { a = low_end K s; b = high_end K s; different = ends_differ }

  upward_on : (r : Rational) → IsOn upward r → IsOn s r
  upward_on r on = by_low K s (low_end K s) (high_end K s) own_ends r (record { straight = on.straight; x_between = on.x_between; y_between = on.y_between })

  upward_end : (r : Rational) → IsEnd s r → IsEnd upward r
  upward_end r end =
      ⊎_elim
      (λ k. ⊎_elim (λ e. inl (subst (λ p. IsSame r (whole p)) (sym k.0) e)) (λ e. inr (subst (λ p. IsSame r (whole p)) (sym k.1) e)) end)
      (λ k. ⊎_elim (λ e. inr (subst (λ p. IsSame r (whole p)) (sym k.1) e)) (λ e. inl (subst (λ p. IsSame r (whole p)) (sym k.0) e)) end) own_ends.are

-- ---- two segments that are apart or share an end of both alone

exchanged_share : (u w : Segment) (r : Rational) → IsShared u w r → IsShared w u r
exchanged_share u w r k = record { on_first = k.on_second; on_second = k.on_first }

pub exchanged_free : (u w : Segment) → AreApartOrAtEnds u w → AreApartOrAtEnds w u
exchanged_free u w =
    ⊎_elim (λ apart. inl (λ r k. apart r (exchanged_share w u r k)))
    (λ k.
    let p : Point = k.0 in
    let meet : MeetAtEnds u w p = k.1 in
    inr (
      p,
      record {
        only = record { shared = exchanged_share u w (whole p) meet.only.shared; only = λ q j. meet.only.only q (exchanged_share w u q j) };
        first_end = meet.second_end;
        second_end = meet.first_end;
      },
    ))

module _ (K : ℤ) (u w : Segment) (near : AreNear K u.a u.b) (near' : AreNear K w.a w.b) (free : AreApartOrAtEnds u w) where
  -- what they share is an end of the first
  shared_at_end : (r : Rational) → IsShared (upward K u near) (upward K w near') r → IsEnd (upward K u near) r
  shared_at_end r k =
      let both : IsShared u w r = record { on_first = upward_on K u near r k.on_first; on_second = upward_on K w near' r k.on_second } in
      ⊎_elim (λ apart. absurd (apart r both))
      (λ j.
      let meet : MeetAtEnds u w j.0 = j.1 in
      upward_end K u near r (end_same u (whole j.0) r (same_sym r (whole j.0) (meet.only.only r both)) meet.first_end)) free

  crossed : pos 0 <ℤ turn_to K w (low_end K u) → turn_to K w (high_end K u) <ℤ pos 0 → turn_to K u (low_end K w) <ℤ pos 0 → ¬ (pos 0 <ℤ turn_to K u (high_end K w))
  crossed low high low' high' = share_inside (upward K u near) (upward K w near') low high low' high' shared_at_end

-- ---- west at one height, and so west

-- one of two turns isn't on the wrong side
one_of_two : (x y : ℤ) → (x <ℤ pos 0 → ¬ (pos 0 <ℤ y)) → (pos 0 ≤ℤ x) ⊎ (y ≤ℤ pos 0)
one_of_two x y none = by_lt_z x (pos 0) (λ h. inr (by_lt_z (pos 0) y (λ k. absurd (none h k)) (λ k. k))) (λ h. inl h)

-- both are
both_of_two : (x y : ℤ) → ¬ ((pos 0 ≤ℤ x) ⊎ (y ≤ℤ pos 0)) → (x <ℤ pos 0) × (pos 0 <ℤ y)
both_of_two x y none = (
  by_lt_z x (pos 0) (λ h. h) (λ h. absurd (none (inl h))),
  by_lt_z (pos 0) y (λ h. h) (λ h. absurd (none (inr h))),
)

module _ (K : ℤ) (u w : Segment) (p : Point) (near : AreNear K u.a u.b) (near' : AreNear K w.a w.b) (spans : Spans K u (whole p)) (spans' : Spans K w (whole p))
    (east : turn_to K u p ≤ℤ pos 0) (west : pos 0 ≤ℤ turn_to K w p) (beside : (turn_to K u p <ℤ pos 0) ⊎ (pos 0 <ℤ turn_to K w p)) where
  -- w isn't west of u
  not_back : ¬ IsWestOf K w u
  not_back back =
      let at_u : turn_at (low_end K u) (high_end K u) (whole p) ≡ turn_to K u p = turn_whole (low_end K u) (high_end K u) p in
      let at_w : turn_at (low_end K w) (high_end K w) (whole p) ≡ turn_to K w p = turn_whole (low_end K w) (high_end K w) p in
      ⊎_elim
      (λ h.
      let k : turn_to K w p <ℤ pos 0 = subst (λ z. z <ℤ pos 0) at_w (strictly_east K w u near' near back (whole p) spans' spans (subst (λ z. z <ℤ pos 0) (sym at_u) h)) in
      omega (arith, ints, k, west))
      (λ h.
      let k : pos 0 <ℤ turn_to K u p = subst (λ z. pos 0 <ℤ z) at_u (strictly_west K w u near' near back (whole p) spans' spans (subst (λ z. pos 0 <ℤ z) (sym at_w) h)) in
      omega (arith, ints, k, east)) beside

-- at the height of p, which isn't west of u nor east of w, and lies strictly beside one of them
pub west_at : (K : ℤ) (u w : Segment) (p : Point) → AreNear K u.a u.b → AreNear K w.a w.b → Spans K u (whole p) → Spans K w (whole p) →
    turn_to K u p ≤ℤ pos 0 → pos 0 ≤ℤ turn_to K w p → (turn_to K u p <ℤ pos 0) ⊎ (pos 0 <ℤ turn_to K w p) → AreApartOrAtEnds u w → IsWestOf K u w
west_at K u w p near near' spans spans' east west beside free =
    let no_way_back : ¬ IsWestOf K w u = not_back K u w p near near' spans spans' east west beside in
    record {
      below =
          one_of_two (turn_to K w (low_end K u)) (turn_to K u (low_end K w))
          (λ h k.
          let both = both_of_two (turn_to K u (high_end K w)) (turn_to K w (high_end K u)) (λ above. no_way_back (record { below = inl (omega (arith, ints, k)); above = above })) in
          crossed K w u near' near (exchanged_free u w free) k both.0 h both.1);
      above =
          one_of_two (turn_to K w (high_end K u)) (turn_to K u (high_end K w))
          (λ h k.
          let both = both_of_two (turn_to K u (low_end K w)) (turn_to K w (low_end K u)) (λ below. no_way_back (record { below = below; above = inl (omega (arith, ints, k)) })) in
          crossed K u w near near' free both.1 h both.0 k);
    }

-- whatever the two share
pub west_from : (K : ℤ) (u w : Segment) → low_end K u ≡ low_end K w → turn_to K u (high_end K w) ≤ℤ pos 0 → IsWestOf K u w
west_from K u w one east =
    let none : turn_to K u (low_end K w) ≡ pos 0 = subst (λ q. turn_to K u q ≡ pos 0) one (turn_first (low_end K u) (high_end K u)) in
    record { below = inr (omega (arith, ints, none)); above = inr east }
