-- Of two segments of planar chains the one that is west of the other at one height is so at each height of both.
use Rattle.std.proofs.Common.{◌≡◌, ◌⊎◌, inl, inr, ⊎_elim, ℕ, ℤ, pos, ◌+ℤ◌, ◌-ℤ◌, ◌*ℤ◌, ◌<ℤ◌, ◌≤ℤ◌, List, refl, sym, ap, ap₂, subst, ◌∙◌, arith}
use Rattle.std.proofs.lemmas.Int.{ints}
use Rattle.tl_geom.specs.declared.point.Point.{Point}
use Rattle.tl_geom.specs.declared.rational.Rational.{Rational}
use Rattle.tl_geom.specs.declared.segment.Segment.{Segment}
use Rattle.tl_geom.specs.Plane.{IsOn, IsSame, whole}
use Rattle.tl_geom.specs.Contact.{IsEnd}
use Rattle.tl_geom.proofs.Polynomials.{num, ◌⊕◌, ◌⊖◌, ◌⊗◌, same, same_by_two}
use Rattle.tl_geom.proofs.Signs.{cancel, zero_product, product_above, times_zero, sign}
use Rattle.tl_map_county.specs.TheMap.{MapChain}
use Rattle.tl_check_planar.specs.Planar.{IsPlanar}
use Rattle.tl_check_planar.specs.ByHeight.Heights.{height, height_of, low_end, high_end, turn_at}
use Rattle.tl_check_planar.specs.ByHeight.Neighbours.{IsNumbered}
use Rattle.tl_check_planar.proofs.ByHeight.Order.{lean, joined, factored}
use Rattle.tl_check_planar.proofs.ByHeight.Rising.{AreEndsOf}
use Rattle.tl_check_planar.proofs.ByHeight.Lying.{heights_of, lies_on}
use Rattle.tl_check_faces.proofs.Numbers.{le_lt, lt_le}
use Rattle.tl_check_faces.proofs.Steep.{IsSpanned}
use Rattle.tl_check_faces.proofs.Lines.{AreLevel, IsMet, met}
use Rattle.tl_check_faces.proofs.Items.{point_level, scaled, scaled_above}
use Rattle.tl_check_faces.proofs.Alone.{alone}

-- ---- a number that is linear in a height, below 0 at one and above 0 at another

-- it is 0 at a height strictly between
record IsRoot (A B h d k e : ℤ) : Type 0 where
  at : ℤ
  over : ℤ
  above : pos 0 <ℤ over
  zero : A *ℤ at +ℤ B *ℤ over ≡ pos 0
  between : (((h *ℤ over) <ℤ (at *ℤ d)) × ((at *ℤ e) <ℤ (k *ℤ over))) ⊎ (((k *ℤ over) <ℤ (at *ℤ e)) × ((at *ℤ d) <ℤ (h *ℤ over)))

root : (A B h d k e : ℤ) → pos 0 <ℤ d → pos 0 <ℤ e → (A *ℤ h +ℤ B *ℤ d) <ℤ pos 0 → pos 0 <ℤ (A *ℤ k +ℤ B *ℤ e) → IsRoot A B h d k e
root A B h d k e d_above e_above below above = ⊎_elim falling (⊎_elim level rising) (sign A)
  where
    exchanged : (x y : ℤ) → x *ℤ y ≡ y *ℤ x
    exchanged x y = same (num x ⊗ num y) (num y ⊗ num x) (omega arith)

    turned : (x y : ℤ) → (pos 0 -ℤ x) *ℤ y ≡ pos 0 -ℤ x *ℤ y
    turned x y = same ((num (pos 0) ⊖ num x) ⊗ num y) (num (pos 0) ⊖ num x ⊗ num y) (omega arith)

    turned_last : (x y : ℤ) → x *ℤ (pos 0 -ℤ y) ≡ pos 0 -ℤ x *ℤ y
    turned_last x y = same (num x ⊗ (num (pos 0) ⊖ num y)) (num (pos 0) ⊖ num x ⊗ num y) (omega arith)

    rising : pos 0 <ℤ A → IsRoot A B h d k e
    rising up =
        let a = exchanged A h in let b = exchanged A k in let c = turned B d in let f = turned B e in
        record {
          at = pos 0 -ℤ B;
          over = A;
          above = up;
          zero = let z = turned_last A B in let y = exchanged A B in omega (arith, ints, z, y);
          between = inl (omega (arith, ints, a, c, below), omega (arith, ints, b, f, above));
        }

    falling : A <ℤ pos 0 → IsRoot A B h d k e
    falling down =
        let a = exchanged A h in let b = exchanged A k in let c = turned_last h A in let f = turned_last k A in
        record {
          at = B;
          over = pos 0 -ℤ A;
          above = omega (arith, ints, down);
          zero = let z = turned_last B A in let y = exchanged A B in omega (arith, ints, z, y);
          between = inr (omega (arith, ints, b, f, above), omega (arith, ints, a, c, below));
        }

    level : A ≡ pos 0 → IsRoot A B h d k e
    level none =
        let zero_h : A *ℤ h ≡ pos 0 = ap (λ z. z *ℤ h) none ∙ nothing h in
        let zero_k : A *ℤ k ≡ pos 0 = ap (λ z. z *ℤ k) none ∙ nothing k in
        let low : (B *ℤ d) <ℤ pos 0 = omega (arith, ints, zero_h, below) in
        let high : pos 0 <ℤ (B *ℤ e) = omega (arith, ints, zero_k, above) in
        absurd (⊎_elim
        (λ less. let p = product_above (pos 0 -ℤ B) e (omega (arith, ints, less)) e_above in let t = turned B e in omega (arith, ints, p, t, high))
        (⊎_elim (λ zero. let z : B *ℤ e ≡ pos 0 = ap (λ v. v *ℤ e) zero ∙ nothing e in omega (arith, ints, z, high))
        (λ more. let p = product_above B d more d_above in omega (arith, ints, p, low)))
        (sign B))
      where
        nothing : (x : ℤ) → pos 0 *ℤ x ≡ pos 0
        nothing x = same (num (pos 0) ⊗ num x) (num (pos 0)) (omega arith)

-- ---- of two segments

module _ (K : ℤ) (above : pos 0 <ℤ K) (chains : List MapChain) (planar : IsPlanar chains) (s t : ℕ) (u w : Segment) (differ : ¬ (s ≡ t)) (is : IsNumbered chains s u) (is' : IsNumbered chains t w)
    (ends : AreEndsOf K u (low_end K u) (high_end K u)) (ends' : AreEndsOf K w (low_end K w) (high_end K w)) where
  abbrev a : Point
  a = low_end K u

  abbrev b : Point
  b = high_end K u

  abbrev c : Point
  c = low_end K w

  abbrev e : Point
  e = high_end K w

  abbrev first_rise : ℤ
  first_rise = height K b -ℤ height K a

  abbrev last_rise : ℤ
  last_rise = height K e -ℤ height K c

  abbrev slope : ℤ
  slope = first_rise *ℤ (e.x -ℤ c.x) -ℤ last_rise *ℤ (b.x -ℤ a.x)

  abbrev start : ℤ
  start = first_rise *ℤ (last_rise *ℤ c.x -ℤ (e.x -ℤ c.x) *ℤ height K c) -ℤ last_rise *ℤ (first_rise *ℤ a.x -ℤ (b.x -ℤ a.x) *ℤ height K a)

  -- how far the first is west of the second, at the height of a place
  abbrev pub lead_at : Rational → ℤ
  lead_at r = slope *ℤ height_of K r +ℤ start *ℤ r.d

  lead : (r : Rational) → K *ℤ (first_rise *ℤ turn_at c e r -ℤ last_rise *ℤ turn_at a b r) ≡ lead_at r
  lead r =
      factored K first_rise last_rise (turn_at a b r) (turn_at c e r)
      ∙ ap₂ (λ x y. first_rise *ℤ y -ℤ last_rise *ℤ x) (lean K a b r) (lean K c e r)
      ∙ joined first_rise last_rise (b.x -ℤ a.x) (e.x -ℤ c.x) (height K a) (height K c) a.x c.x (height_of K r) r.x r.d

  first_above : pos 0 <ℤ first_rise
  first_above = let h = ends.rising in omega (arith, ints, h)

  last_above : pos 0 <ℤ last_rise
  last_above = let h = ends'.rising in omega (arith, ints, h)

  -- by the turn of the second, at a place of the first's line; and the other way round
  on_first : (r : Rational) → turn_at a b r ≡ pos 0 → K *ℤ (first_rise *ℤ turn_at c e r) ≡ lead_at r
  on_first r zero =
      let none : last_rise *ℤ turn_at a b r ≡ pos 0 = ap (λ z. last_rise *ℤ z) zero ∙ times_zero last_rise in
      let same_product : first_rise *ℤ turn_at c e r ≡ first_rise *ℤ turn_at c e r -ℤ last_rise *ℤ turn_at a b r = omega (arith, ints, none) in
      ap (λ z. K *ℤ z) same_product ∙ lead r

  on_last : (r : Rational) → turn_at c e r ≡ pos 0 → K *ℤ (pos 0 -ℤ last_rise *ℤ turn_at a b r) ≡ lead_at r
  on_last r zero =
      let none : first_rise *ℤ turn_at c e r ≡ pos 0 = ap (λ z. first_rise *ℤ z) zero ∙ times_zero first_rise in
      let same_product : pos 0 -ℤ last_rise *ℤ turn_at a b r ≡ first_rise *ℤ turn_at c e r -ℤ last_rise *ℤ turn_at a b r = omega (arith, ints, none) in
      ap (λ z. K *ℤ z) same_product ∙ lead r

  turned : (x y : ℤ) → x *ℤ (pos 0 -ℤ y) ≡ pos 0 -ℤ x *ℤ y
  turned x y = same (num x ⊗ (num (pos 0) ⊖ num y)) (num (pos 0) ⊖ num x ⊗ num y) (omega arith)

  pub west_on_first : (r : Rational) → turn_at a b r ≡ pos 0 → pos 0 <ℤ turn_at c e r → pos 0 <ℤ lead_at r
  west_on_first r zero h = subst (λ z. pos 0 <ℤ z) (on_first r zero) (product_above K (first_rise *ℤ turn_at c e r) above (product_above first_rise (turn_at c e r) first_above h))

  pub east_on_first : (r : Rational) → turn_at a b r ≡ pos 0 → turn_at c e r <ℤ pos 0 → lead_at r <ℤ pos 0
  east_on_first r zero h =
      let p = product_above K (first_rise *ℤ (pos 0 -ℤ turn_at c e r)) above (product_above first_rise (pos 0 -ℤ turn_at c e r) first_above (omega (arith, ints, h))) in
      let f : K *ℤ (first_rise *ℤ (pos 0 -ℤ turn_at c e r)) ≡ pos 0 -ℤ K *ℤ (first_rise *ℤ turn_at c e r) = ap (λ z. K *ℤ z) (turned first_rise (turn_at c e r)) ∙ turned K (first_rise *ℤ turn_at c e r) in
      let g = on_first r zero in
      omega (arith, ints, p, f, g)

  pub east_on_last : (r : Rational) → turn_at c e r ≡ pos 0 → pos 0 <ℤ turn_at a b r → lead_at r <ℤ pos 0
  east_on_last r zero h =
      let p = product_above K (last_rise *ℤ turn_at a b r) above (product_above last_rise (turn_at a b r) last_above h) in
      let f = turned K (last_rise *ℤ turn_at a b r) in
      let g = on_last r zero in
      omega (arith, ints, p, f, g)

  -- a place has a height of both
  pub record IsOfBoth (r : Rational) : Type 0 where
    pub from : (r.d *ℤ height K a) ≤ℤ height_of K r
    pub to : height_of K r ≤ℤ (r.d *ℤ height K b)
    pub from' : (r.d *ℤ height K c) ≤ℤ height_of K r
    pub to' : height_of K r ≤ℤ (r.d *ℤ height K e)

  -- what lies strictly between two heights of both is strictly between the ends
  between : (r q : Rational) (p g h : ℤ) → pos 0 <ℤ g → (r.d *ℤ p) ≤ℤ height_of K r → (height_of K r *ℤ g) <ℤ (h *ℤ r.d) → (g *ℤ p) <ℤ h
  between r q p g h positive le lt =
      let one : p *ℤ r.d ≡ r.d *ℤ p = same (num p ⊗ num r.d) (num r.d ⊗ num p) (omega arith) in
      let two : height_of K r *ℤ pos 1 ≡ height_of K r = same (num (height_of K r) ⊗ num (pos 1)) (num (height_of K r)) (omega arith) in
      let k = le_lt p (pos 1) (height_of K r) r.d h g (omega (arith, ints)) r.above_zero positive (omega (arith, ints, le, one, two)) lt in
      let three : p *ℤ g ≡ g *ℤ p = same (num p ⊗ num g) (num g ⊗ num p) (omega arith) in
      let four : h *ℤ pos 1 ≡ h = same (num h ⊗ num (pos 1)) (num h) (omega arith) in
      omega (arith, ints, k, three, four)

  between' : (r q : Rational) (p g h : ℤ) → pos 0 <ℤ g → height_of K r ≤ℤ (r.d *ℤ p) → (h *ℤ r.d) <ℤ (height_of K r *ℤ g) → h <ℤ (g *ℤ p)
  between' r q p g h positive le lt =
      let one : p *ℤ r.d ≡ r.d *ℤ p = same (num p ⊗ num r.d) (num r.d ⊗ num p) (omega arith) in
      let two : height_of K r *ℤ pos 1 ≡ height_of K r = same (num (height_of K r) ⊗ num (pos 1)) (num (height_of K r)) (omega arith) in
      let k = lt_le h g (height_of K r) r.d p (pos 1) positive r.above_zero (omega (arith, ints)) lt (omega (arith, ints, le, one, two)) in
      let three : p *ℤ g ≡ g *ℤ p = same (num p ⊗ num g) (num g ⊗ num p) (omega arith) in
      let four : h *ℤ pos 1 ≡ h = same (num h ⊗ num (pos 1)) (num h) (omega arith) in
      omega (arith, ints, k, three, four)

  -- a place that has the height of the root
  record IsRootPlace : Type 0 where
    place : Rational
    zero : lead_at place ≡ pos 0
    spanned : IsSpanned K u place
    spanned' : IsSpanned K w place

  root_place : (r q : Rational) → IsOfBoth r → IsOfBoth q → lead_at r <ℤ pos 0 → pos 0 <ℤ lead_at q → IsRootPlace
  root_place r q of of' below above' = go (root slope start (height_of K r) r.d (height_of K q) q.d r.above_zero q.above_zero below above')
    where
      go : IsRoot slope start (height_of K r) r.d (height_of K q) q.d → IsRootPlace
      go z = record {
        place = there;
        zero = ap (λ v. slope *ℤ v +ℤ start *ℤ z.over) there_is ∙ z.zero;
        spanned = ⊎_elim
            (λ k. record { from = subst (λ v. (z.over *ℤ height K a) <ℤ v) (sym there_is) (between r q (height K a) z.over z.at z.above of.from k.0); to = subst (λ v. v <ℤ (z.over *ℤ height K b)) (sym there_is) (between' q r (height K b) z.over z.at z.above of'.to k.1) })
            (λ k. record { from = subst (λ v. (z.over *ℤ height K a) <ℤ v) (sym there_is) (between q r (height K a) z.over z.at z.above of'.from k.0); to = subst (λ v. v <ℤ (z.over *ℤ height K b)) (sym there_is) (between' r q (height K b) z.over z.at z.above of.to k.1) })
            z.between;
        spanned' = ⊎_elim
            (λ k. record { from = subst (λ v. (z.over *ℤ height K c) <ℤ v) (sym there_is) (between r q (height K c) z.over z.at z.above of.from' k.0); to = subst (λ v. v <ℤ (z.over *ℤ height K e)) (sym there_is) (between' q r (height K e) z.over z.at z.above of'.to' k.1) })
            (λ k. record { from = subst (λ v. (z.over *ℤ height K c) <ℤ v) (sym there_is) (between q r (height K c) z.over z.at z.above of'.from' k.0); to = subst (λ v. v <ℤ (z.over *ℤ height K e)) (sym there_is) (between' r q (height K e) z.over z.at z.above of.to' k.1) })
            z.between;
      }
        where
          there : Rational
          there = record { x = pos 0 -ℤ z.at; y = pos 0; d = z.over; above_zero = z.above }

          there_is : height_of K there ≡ z.at
          there_is = same (num K ⊗ num (pos 0) ⊖ (num (pos 0) ⊖ num z.at)) (num z.at) (omega arith)

  -- there the two would share a place that is an end of neither
  carried : (A B h d k f : ℤ) → pos 0 <ℤ d → h *ℤ d ≡ k *ℤ f → A *ℤ k +ℤ B *ℤ d ≡ pos 0 → A *ℤ h +ℤ B *ℤ f ≡ pos 0
  carried A B h d k f positive l zero =
      cancel d (A *ℤ h +ℤ B *ℤ f) (pos 0) positive
      (same_by_two (num d ⊗ (num A ⊗ num h ⊕ num B ⊗ num f)) (num d ⊗ num (pos 0)) (num A) (num h ⊗ num d) (num k ⊗ num f) (num f) (num A ⊗ num k ⊕ num B ⊗ num d) (num (pos 0)) l zero (omega arith))

  end_off : (r p : Rational) → IsSpanned K u r → AreLevel K p r → ¬ IsEnd u p
  end_off r p spanned level = ⊎_elim (λ k. at u.a (inl refl) k) (λ k. at u.b (inr refl) k)
    where
      at : (v : Point) → (v ≡ u.a) ⊎ (v ≡ u.b) → IsSame p (whole v) → ⊥
      at v which here =
          let is_level : r.d *ℤ height K v ≡ height_of K r = point_level K r p v level here in
          let from = spanned.from in let to = spanned.to in
          let low_or : (v ≡ a) ⊎ (v ≡ b) = ⊎_elim
          (λ k. ⊎_elim (λ m. inl (k ∙ sym m.0)) (λ m. inr (k ∙ sym m.1)) ends.are)
          (λ k. ⊎_elim (λ m. inr (k ∙ sym m.1)) (λ m. inl (k ∙ sym m.0)) ends.are) which in
          ⊎_elim
          (λ k. let one : r.d *ℤ height K v ≡ r.d *ℤ height K a = ap (λ z. r.d *ℤ height K z) k in omega (arith, ints, one, is_level, from))
          (λ k. let one : r.d *ℤ height K v ≡ r.d *ℤ height K b = ap (λ z. r.d *ℤ height K z) k in omega (arith, ints, one, is_level, to))
          low_or

  pub never : (r q : Rational) → IsOfBoth r → IsOfBoth q → lead_at r <ℤ pos 0 → pos 0 <ℤ lead_at q → ⊥
  never r q of of' below above' = go (root_place r q of of' below above')
    where
      go : IsRootPlace → ⊥
      go z =
          let m : IsMet K u z.place = met K u z.place ends z.spanned in
          let p : Rational = m.place in
          let zero : turn_at a b p ≡ pos 0 = (heights_of K u a b ends p m.on).0 in
          let none : lead_at p ≡ pos 0 = carried slope start (height_of K p) z.place.d (height_of K z.place) p.d z.place.above_zero m.level.is z.zero in
          let product : K *ℤ (first_rise *ℤ turn_at c e p) ≡ pos 0 = on_first p zero ∙ none in
          let rise : first_rise *ℤ turn_at c e p ≡ pos 0 = zero_product K (first_rise *ℤ turn_at c e p) (λ f. omega (arith, ints, f, above)) product in
          let turn : turn_at c e p ≡ pos 0 = zero_product first_rise (turn_at c e p) (λ f. let h = first_above in omega (arith, ints, f, h)) rise in
          let n : IsMet K w z.place = met K w z.place ends' z.spanned' in
          let at = heights_of K w c e ends' n.place n.on in
          let low = scaled (height K c) (height_of K z.place) (height_of K p) z.place.d p.d z.place.above_zero p.above_zero (sym m.level.is) in
          let high = scaled_above (height K e) (height_of K z.place) (height_of K p) z.place.d p.d z.place.above_zero p.above_zero (sym m.level.is) in
          let from = z.spanned'.from in let to = z.spanned'.to in
          let on' : IsOn w p = lies_on K w c e ends' p turn (low (omega (arith, ints, from))) (high (omega (arith, ints, to))) in
          alone chains planar s t u w p is is' (record { on = m.on; no_end = end_off z.place p z.spanned m.level }) differ on'
