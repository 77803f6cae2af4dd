-- What a sweep tests of neighbours holds of two segments of planar chains of which one is west of the other at a height.
use Rattle.std.proofs.Common.{◌≡◌, ◌⊎◌, inl, inr, ⊎_elim, ℕ, ℤ, pos, ◌*ℤ◌, ◌<ℤ◌, ◌≤ℤ◌, List, refl, sym, ap, subst, ◌∙◌, arith}
use Rattle.std.proofs.lemmas.Int.{ints, by_lt_z}
use Rattle.tl_geom.specs.declared.point.Point.{Point}
use Rattle.tl_geom.specs.declared.rational.Rational.{Rational}
use Rattle.tl_geom.specs.declared.segment.Segment.{Segment}
use Rattle.tl_geom.specs.Plane.{IsOn, IsSame, whole, turn_of}
use Rattle.tl_geom.specs.Contact.{IsEnd, IsShared, AreApart, MeetAtEnds}
use Rattle.tl_geom.proofs.Polynomials.{num, ◌⊗◌, same}
use Rattle.tl_geom.proofs.Places as places
use Rattle.tl_map_county.specs.TheMap.{MapChain}
use Rattle.tl_check_planar.specs.Planar.{IsPlanar}
use Rattle.tl_check_planar.specs.ByHeight.Heights.{height, height_of, low_end, high_end, turn_at}
use Rattle.tl_check_planar.specs.ByHeight.Neighbours.{IsNumbered, IsWestOf, AreApartOrAtEnds}
use Rattle.tl_check_planar.proofs.ByHeight.Order.{turn_whole, turn_first, turn_last}
use Rattle.tl_check_planar.proofs.ByHeight.Rising.{AreEndsOf}
use Rattle.tl_check_planar.proofs.ByHeight.Lying.{heights_of, at_first, at_last}
use Rattle.tl_check_faces.specs.Facing.{IsStrictlyOn}
use Rattle.tl_check_faces.proofs.Steep.{IsSpanned}
use Rattle.tl_check_faces.proofs.Lines.{AreLevel}
use Rattle.tl_check_faces.proofs.Ends.{point_or}
use Rattle.tl_check_faces.proofs.Items.{point_level, scaled, scaled_above}
use Rattle.tl_check_faces.proofs.Alone.{alone}
use Rattle.tl_check_faces.proofs.Reversed.{IsOfBoth, lead_at, west_on_first, east_on_first, east_on_last, never}

one_times : (z : ℤ) → pos 1 *ℤ z ≡ z
one_times z = same (num (pos 1) ⊗ num z) (num z) (omega arith)

-- what lies on a segment and is no end of it is strictly between
module _ (K : ℤ) (u : Segment) (ends : AreEndsOf K u (low_end K u) (high_end K u)) (r : Rational) where
  end_is : (v : Point) → (v ≡ u.a) ⊎ (v ≡ u.b) → IsSame r (whole v) → IsEnd u r
  end_is v which here = ⊎_elim (λ k. inl (subst (λ z. IsSame r (whole z)) k here)) (λ k. inr (subst (λ z. IsSame r (whole z)) k here)) which

  low_or_high : IsOn u r → ¬ IsStrictlyOn u r → IsSame r (whole (low_end K u)) ⊎ IsSame r (whole (high_end K u))
  low_or_high on within =
      let at = heights_of K u (low_end K u) (high_end K u) ends r on in
      let from : (r.d *ℤ height K (low_end K u)) ≤ℤ height_of K r = at.1 in
      let to : height_of K r ≤ℤ (r.d *ℤ height K (high_end K u)) = at.2 in
      by_lt_z (r.d *ℤ height K (low_end K u)) (height_of K r)
      (λ beyond. by_lt_z (height_of K r) (r.d *ℤ height K (high_end K u))
      (λ under. absurd (within (record { on = on; no_end = λ e. inside beyond under e })))
      (λ ge. inr (at_last K (low_end K u) (high_end K u) ends.rising r at.0 (omega (arith, ints, ge, to)))))
      (λ ge. inl (at_first K (low_end K u) (high_end K u) ends.rising r at.0 (omega (arith, ints, ge, from))))
    where
      level : AreLevel K r r
      level = record { is = refl }

      inside : (r.d *ℤ height K (low_end K u)) <ℤ height_of K r → height_of K r <ℤ (r.d *ℤ height K (high_end K u)) → IsEnd u r → ⊥
      inside beyond under = ⊎_elim (λ k. at u.a (inl refl) k) (λ k. at u.b (inr refl) k)
        where
          at : (v : Point) → (v ≡ u.a) ⊎ (v ≡ u.b) → IsSame r (whole v) → ⊥
          at v which here =
              let is_level : r.d *ℤ height K v ≡ height_of K r = point_level K r r v level here in
              let low_or : (v ≡ low_end K u) ⊎ (v ≡ high_end K u) = ⊎_elim
              (λ k. ⊎_elim (λ m. inl (k ∙ sym m.0)) (λ m. inr (k ∙ sym m.1)) ends.are)
              (λ k. ⊎_elim (λ m. inr (k ∙ sym m.1)) (λ m. inl (k ∙ sym m.0)) ends.are) which in
              ⊎_elim
              (λ k. let one : r.d *ℤ height K v ≡ r.d *ℤ height K (low_end K u) = ap (λ z. r.d *ℤ height K z) k in omega (arith, ints, one, is_level, beyond))
              (λ k. let one : r.d *ℤ height K v ≡ r.d *ℤ height K (high_end K u) = ap (λ z. r.d *ℤ height K z) k in omega (arith, ints, one, is_level, under))
              low_or

pub low_on : (K : ℤ) (u : Segment) → AreEndsOf K u (low_end K u) (high_end K u) → IsEnd u (whole (low_end K u)) × IsOn u (whole (low_end K u))
low_on K u ends = ⊎_elim
    (λ k. (inl (subst (λ z. IsSame (whole z) (whole u.a)) (sym k.0) (places.same_refl (whole u.a))), subst (λ z. IsOn u (whole z)) (sym k.0) (places.a_on u)))
    (λ k. (inr (subst (λ z. IsSame (whole z) (whole u.b)) (sym k.0) (places.same_refl (whole u.b))), subst (λ z. IsOn u (whole z)) (sym k.0) (places.b_on u)))
    ends.are

pub high_on : (K : ℤ) (u : Segment) → AreEndsOf K u (low_end K u) (high_end K u) → IsEnd u (whole (high_end K u)) × IsOn u (whole (high_end K u))
high_on K u ends = ⊎_elim
    (λ k. (inr (subst (λ z. IsSame (whole z) (whole u.b)) (sym k.1) (places.same_refl (whole u.b))), subst (λ z. IsOn u (whole z)) (sym k.1) (places.b_on u)))
    (λ k. (inl (subst (λ z. IsSame (whole z) (whole u.a)) (sym k.1) (places.same_refl (whole u.a))), subst (λ z. IsOn u (whole z)) (sym k.1) (places.a_on u)))
    ends.are

module _ (K : ℤ) (above : pos 0 <ℤ K) (chains : List MapChain) (planar : IsPlanar chains) (s t : ℕ) (u w : Segment) (differ : ¬ (s ≡ t)) (is : IsNumbered chains s u) (is' : IsNumbered chains t w)
    (ends : AreEndsOf K u (low_end K u) (high_end K u)) (ends' : AreEndsOf K w (low_end K w) (high_end K w))
    (n : ℤ) (begun : height K (low_end K u) ≤ℤ n) (lasting : n <ℤ height K (high_end K u)) (begun' : height K (low_end K w) ≤ℤ n) (lasting' : n <ℤ height K (high_end K w))
    (r p : Rational) (spanned : IsSpanned K u r) (spanned' : IsSpanned K w r) (on : IsOn u p) (level : AreLevel K p r) (west : pos 0 <ℤ turn_at (low_end K w) (high_end K w) p) where
  abbrev a : Point
  a = low_end K u

  abbrev b : Point
  b = high_end K u

  abbrev c : Point
  c = low_end K w

  abbrev e : Point
  e = high_end K w

  abbrev Both : Rational → Type 0
  Both q = IsOfBoth K above chains planar s t u w differ is is' ends ends' q

  abbrev lead : Rational → ℤ
  lead q = lead_at K above chains planar s t u w differ is is' ends ends' q

  no_way : (q : Rational) → Both q → lead q <ℤ pos 0 → ⊥
  no_way q of below =
      never K above chains planar s t u w differ is is' ends ends' q p of there below
      (west_on_first K above chains planar s t u w differ is is' ends ends' p (heights_of K u a b ends p on).0 west)
    where
      from : (r.d *ℤ height K a) <ℤ height_of K r
      from = spanned.from

      to : height_of K r <ℤ (r.d *ℤ height K b)
      to = spanned.to

      from' : (r.d *ℤ height K c) <ℤ height_of K r
      from' = spanned'.from

      to' : height_of K r <ℤ (r.d *ℤ height K e)
      to' = spanned'.to

      low_there : (v : ℤ) → (r.d *ℤ v) <ℤ height_of K r → (p.d *ℤ v) ≤ℤ height_of K p
      low_there v h = scaled v (height_of K r) (height_of K p) r.d p.d r.above_zero p.above_zero (sym level.is) (omega (arith, ints, h))

      high_there : (v : ℤ) → height_of K r <ℤ (r.d *ℤ v) → height_of K p ≤ℤ (p.d *ℤ v)
      high_there v h = scaled_above v (height_of K r) (height_of K p) r.d p.d r.above_zero p.above_zero (sym level.is) (omega (arith, ints, h))

      there : Both p
      there = record { from = low_there (height K a) from; to = high_there (height K b) to; from' = low_there (height K c) from'; to' = high_there (height K e) to' }

  -- a whole point of a height of both
  of_both : (v : Point) → height K a ≤ℤ height K v → height K v ≤ℤ height K b → height K c ≤ℤ height K v → height K v ≤ℤ height K e → Both (whole v)
  of_both v f t f' t' =
      let one = one_times (height K a) in let two = one_times (height K b) in let three = one_times (height K c) in let four = one_times (height K e) in
      record { from = omega (arith, ints, one, f); to = omega (arith, ints, two, t); from' = omega (arith, ints, three, f'); to' = omega (arith, ints, four, t') }

  -- an end of the first isn't east of the second, and an end of the second isn't west of the first
  first_end : (v : Point) → turn_of a b v ≡ pos 0 → Both (whole v) → pos 0 ≤ℤ turn_of c e v
  first_end v zero of =
      by_lt_z (turn_of c e v) (pos 0)
      (λ east. absurd (no_way (whole v) of
      (east_on_first K above chains planar s t u w differ is is' ends ends' (whole v) (turn_whole a b v ∙ zero) (subst (λ z. z <ℤ pos 0) (sym (turn_whole c e v)) east))))
      (λ k. k)

  last_end : (v : Point) → turn_of c e v ≡ pos 0 → Both (whole v) → turn_of a b v ≤ℤ pos 0
  last_end v zero of =
      by_lt_z (pos 0) (turn_of a b v)
      (λ west. absurd (no_way (whole v) of
      (east_on_last K above chains planar s t u w differ is is' ends ends' (whole v) (turn_whole c e v ∙ zero) (subst (λ z. pos 0 <ℤ z) (sym (turn_whole a b v)) west))))
      (λ k. k)

  pub is_west : IsWestOf K u w
  is_west =
      let rising = ends.rising in let rising' = ends'.rising in
      record {
        below = by_lt_z (height K a) (height K c)
            (λ lt. inr (last_end c (turn_first c e) (of_both c (omega (arith, ints, lt)) (omega (arith, ints, begun', lasting)) (omega (arith, ints)) (omega (arith, ints, rising')))))
            (λ ge. inl (first_end a (turn_first a b) (of_both a (omega (arith, ints)) (omega (arith, ints, rising)) ge (omega (arith, ints, begun, lasting')))));
        above = by_lt_z (height K b) (height K e)
            (λ lt. inl (first_end b (turn_last a b) (of_both b (omega (arith, ints, rising)) (omega (arith, ints)) (omega (arith, ints, begun', lasting)) (omega (arith, ints, lt)))))
            (λ ge. inr (last_end e (turn_last c e) (of_both e (omega (arith, ints, begun, lasting')) ge (omega (arith, ints, rising')) (omega (arith, ints)))));
      }

  -- ---- they share nothing but an end of both

  first_ends : (q : Rational) → IsShared u w q → IsSame q (whole a) ⊎ IsSame q (whole b)
  first_ends q shared = low_or_high K u ends q shared.on_first (λ within. alone chains planar s t u w q is is' within differ shared.on_second)

  last_ends : (q : Rational) → IsShared u w q → IsSame q (whole c) ⊎ IsSame q (whole e)
  last_ends q shared = low_or_high K w ends' q shared.on_second (λ within. alone chains planar t s w u q is' is within (λ f. differ (sym f)) shared.on_first)

  one_point : (q : Rational) (v z : Point) → IsSame q (whole v) → IsSame q (whole z) → v ≡ z
  one_point q v z first last = places.whole_same v z (places.same_trans (whole v) q (whole z) (places.same_sym q (whole v) first) last)

  -- the lower end of the one is never the higher end of the other
  low_high : ¬ (a ≡ e)
  low_high f = let h : height K a ≡ height K e = ap (height K) f in omega (arith, ints, h, begun, lasting')

  high_low : ¬ (b ≡ c)
  high_low f = let h : height K b ≡ height K c = ap (height K) f in omega (arith, ints, h, begun', lasting)

  meet_low : a ≡ c → ¬ (b ≡ e) → MeetAtEnds u w a
  meet_low f ne = record {
    only = record {
      shared = record { on_first = (low_on K u ends).1; on_second = subst (λ z. IsOn w (whole z)) (sym f) (low_on K w ends').1 };
      only = λ q shared. ⊎_elim (λ k. k)
          (λ k. absurd (⊎_elim (λ m. high_low (one_point q b c k m)) (λ m. ne (one_point q b e k m)) (last_ends q shared)))
          (first_ends q shared);
    };
    first_end = (low_on K u ends).0;
    second_end = subst (λ z. IsEnd w (whole z)) (sym f) (low_on K w ends').0;
  }

  meet_high : b ≡ e → ¬ (a ≡ c) → MeetAtEnds u w b
  meet_high f ne = record {
    only = record {
      shared = record { on_first = (high_on K u ends).1; on_second = subst (λ z. IsOn w (whole z)) (sym f) (high_on K w ends').1 };
      only = λ q shared. ⊎_elim
          (λ k. absurd (⊎_elim (λ m. ne (one_point q a c k m)) (λ m. low_high (one_point q a e k m)) (last_ends q shared)))
          (λ k. k)
          (first_ends q shared);
    };
    first_end = (high_on K u ends).0;
    second_end = subst (λ z. IsEnd w (whole z)) (sym f) (high_on K w ends').0;
  }

  apart : ¬ (a ≡ c) → ¬ (b ≡ e) → AreApart u w
  apart low high q shared = ⊎_elim
      (λ k. ⊎_elim (λ m. low (one_point q a c k m)) (λ m. low_high (one_point q a e k m)) (last_ends q shared))
      (λ k. ⊎_elim (λ m. high_low (one_point q b c k m)) (λ m. high (one_point q b e k m)) (last_ends q shared))
      (first_ends q shared)

  -- with the same ends they would have one place at each height
  not_both : a ≡ c → b ≡ e → ⊥
  not_both f g =
      let zero : turn_at a b p ≡ pos 0 = (heights_of K u a b ends p on).0 in
      let same_turn : turn_at a b p ≡ turn_at c e p = (λ i. turn_at (f i) (g i) p) in
      omega (arith, ints, zero, same_turn, west)

  pub are_free : AreApartOrAtEnds u w
  are_free = ⊎_elim
      (λ f. ⊎_elim (λ g. absurd (not_both f g)) (λ ne. inr (a, meet_low f ne)) (point_or b e))
      (λ ne. ⊎_elim (λ g. inr (b, meet_high g ne)) (λ ne'. inl (apart ne ne')) (point_or b e))
      (point_or a c)
