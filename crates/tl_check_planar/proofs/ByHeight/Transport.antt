-- A place that isn't east of a segment isn't east of one that lies east of that segment.
use Rattle.std.proofs.Common.{◌≡◌, ⊎_elim, ℤ, pos, ◌-ℤ◌, ◌*ℤ◌, ◌<ℤ◌, ◌≤ℤ◌, ap, sym, subst, ◌∙◌, arith}
use Rattle.std.proofs.lemmas.Int.{ints}
use Rattle.tl_geom.specs.declared.point.Point.{Point}
use Rattle.tl_geom.specs.declared.rational.Rational.{Rational}
use Rattle.tl_geom.specs.declared.segment.Segment.{Segment}
use Rattle.tl_geom.specs.Plane.{IsOn, whole, turn_of}
use Rattle.tl_geom.specs.Contact.{AreApart}
use Rattle.tl_geom.proofs.Signs.{mono, mono_lt, product_at_least, product_above, at_least_of_product, above_of_product, cancel_lt, times_zero, zero_product}
use Rattle.tl_check_planar.specs.ByHeight.Heights.{height, height_of, AreNear, low_end, high_end, turn_to, turn_at, Spans, IsNotEast}
use Rattle.tl_check_planar.specs.ByHeight.Neighbours.{IsWestOf}
use Rattle.tl_check_planar.specs.ByHeight.Keeping.Clear.{IsClearlyWestOf}
use Rattle.tl_check_planar.proofs.ByHeight.Order.{in_order, west_between, turn_whole, turn_first, turn_last}
use Rattle.tl_check_planar.proofs.ByHeight.Rising.{AreEndsOf, ends_of, above_zero}
use Rattle.tl_check_planar.proofs.ByHeight.Lying.{heights_of, lies_on}

module _ (K : ℤ) (u w : Segment) (near : AreNear K u.a u.b) (near' : AreNear K w.a w.b) where
  ends : AreEndsOf K u (low_end K u) (high_end K u)
  ends = ends_of K u near

  ends' : AreEndsOf K w (low_end K w) (high_end K w)
  ends' = ends_of K w near'

  abbrev rise_u : ℤ
  rise_u = height K (high_end K u) -ℤ height K (low_end K u)

  abbrev rise_w : ℤ
  rise_w = height K (high_end K w) -ℤ height K (low_end K w)

  up_u : pos 0 <ℤ rise_u
  up_u = let h = ends.rising in omega (arith, ints, h)

  up_w : pos 0 <ℤ rise_w
  up_w = let h = ends'.rising in omega (arith, ints, h)

  -- the first isn't east of the second at the height of a place
  abbrev AreOrdered : Rational → Type 0
  AreOrdered r = (rise_w *ℤ turn_at (low_end K u) (high_end K u) r) ≤ℤ (rise_u *ℤ turn_at (low_end K w) (high_end K w) r)

  -- by the side of a point of one of them
  by_first : (p : Point) → turn_of (low_end K u) (high_end K u) p ≡ pos 0 → pos 0 ≤ℤ turn_to K w p → AreOrdered (whole p)
  by_first p zero west =
      let none : rise_w *ℤ turn_at (low_end K u) (high_end K u) (whole p) ≡ pos 0 = ap (λ z. rise_w *ℤ z) (turn_whole (low_end K u) (high_end K u) p ∙ zero) ∙ times_zero rise_w in
      let up = up_u in
      let more : pos 0 ≤ℤ (rise_u *ℤ turn_at (low_end K w) (high_end K w) (whole p)) =
      product_at_least rise_u (turn_at (low_end K w) (high_end K w) (whole p)) (omega (arith, ints, up)) (subst (λ z. pos 0 ≤ℤ z) (sym (turn_whole (low_end K w) (high_end K w) p)) west) in
      omega (arith, ints, none, more)

  by_second : (p : Point) → turn_of (low_end K w) (high_end K w) p ≡ pos 0 → turn_to K u p ≤ℤ pos 0 → AreOrdered (whole p)
  by_second p zero east =
      let none : rise_u *ℤ turn_at (low_end K w) (high_end K w) (whole p) ≡ pos 0 = ap (λ z. rise_u *ℤ z) (turn_whole (low_end K w) (high_end K w) p ∙ zero) ∙ times_zero rise_u in
      let up = up_w in
      let less : (rise_w *ℤ turn_at (low_end K u) (high_end K u) (whole p)) ≤ℤ (rise_w *ℤ pos 0) =
      mono rise_w (turn_at (low_end K u) (high_end K u) (whole p)) (pos 0) (omega (arith, ints, up)) (subst (λ z. z ≤ℤ pos 0) (sym (turn_whole (low_end K u) (high_end K u) p)) east) in
      omega (arith, ints, none, less, times_zero rise_w)

  module _ (west : IsWestOf K u w) (r : Rational) (spans : Spans K u r) (spans' : Spans K w r) where
    pub ordered : AreOrdered r
    ordered =
        let up = above_zero K u.a u.b near in
        let carried : (p q : Point) → AreOrdered (whole p) → AreOrdered (whole q) → (r.d *ℤ height K p) ≤ℤ height_of K r → height_of K r ≤ℤ (r.d *ℤ height K q) → AreOrdered r =
        λ p q. in_order K (low_end K u) (high_end K u) (low_end K w) (high_end K w) up p q r in
        let low_u : pos 0 ≤ℤ turn_to K w (low_end K u) → AreOrdered (whole (low_end K u)) = by_first (low_end K u) (turn_first (low_end K u) (high_end K u)) in
        let low_w : turn_to K u (low_end K w) ≤ℤ pos 0 → AreOrdered (whole (low_end K w)) = by_second (low_end K w) (turn_first (low_end K w) (high_end K w)) in
        let high_u : pos 0 ≤ℤ turn_to K w (high_end K u) → AreOrdered (whole (high_end K u)) = by_first (high_end K u) (turn_last (low_end K u) (high_end K u)) in
        let high_w : turn_to K u (high_end K w) ≤ℤ pos 0 → AreOrdered (whole (high_end K w)) = by_second (high_end K w) (turn_last (low_end K w) (high_end K w)) in
        ⊎_elim
        (λ l. ⊎_elim (λ h. carried (low_end K u) (high_end K u) (low_u l) (high_u h) spans.from spans.to) (λ h. carried (low_end K u) (high_end K w) (low_u l) (high_w h) spans.from spans'.to) west.above)
        (λ l. ⊎_elim (λ h. carried (low_end K w) (high_end K u) (low_w l) (high_u h) spans'.from spans.to) (λ h. carried (low_end K w) (high_end K w) (low_w l) (high_w h) spans'.from spans'.to) west.above)
        west.below

    pub not_east : IsNotEast K u r → IsNotEast K w r
    not_east h =
        let up = up_w in
        let first : pos 0 ≤ℤ (rise_w *ℤ turn_at (low_end K u) (high_end K u) r) = product_at_least rise_w (turn_at (low_end K u) (high_end K u) r) (omega (arith, ints, up)) h in
        let o = ordered in
        at_least_of_product rise_u (turn_at (low_end K w) (high_end K w) r) up_u (omega (arith, ints, first, o))

    pub strictly_west : pos 0 <ℤ turn_at (low_end K u) (high_end K u) r → pos 0 <ℤ turn_at (low_end K w) (high_end K w) r
    strictly_west h =
        let up = up_u in
        let first : pos 0 <ℤ (rise_w *ℤ turn_at (low_end K u) (high_end K u) r) = product_above rise_w (turn_at (low_end K u) (high_end K u) r) up_w h in
        let o = ordered in
        above_of_product rise_u (turn_at (low_end K w) (high_end K w) r) (omega (arith, ints, up)) (omega (arith, ints, first, o))

    pub strictly_east : turn_at (low_end K w) (high_end K w) r <ℤ pos 0 → turn_at (low_end K u) (high_end K u) r <ℤ pos 0
    strictly_east h =
        let up = up_w in
        let last : (rise_u *ℤ turn_at (low_end K w) (high_end K w) r) <ℤ (rise_u *ℤ pos 0) = mono_lt rise_u (turn_at (low_end K w) (high_end K w) r) (pos 0) up_u h in
        let o = ordered in
        cancel_lt rise_w (turn_at (low_end K u) (high_end K u) r) (pos 0) (omega (arith, ints, up)) (omega (arith, ints, last, o, times_zero rise_u, times_zero rise_w))

    pub on_both : IsNotEast K u r → IsOn w r → IsOn u r
    on_both h on =
        let up = up_w in
        let zero : turn_at (low_end K w) (high_end K w) r ≡ pos 0 = (heights_of K w (low_end K w) (high_end K w) ends' r on).0 in
        let none : rise_u *ℤ turn_at (low_end K w) (high_end K w) r ≡ pos 0 = ap (λ z. rise_u *ℤ z) zero ∙ times_zero rise_u in
        let first : pos 0 ≤ℤ (rise_w *ℤ turn_at (low_end K u) (high_end K u) r) = product_at_least rise_w (turn_at (low_end K u) (high_end K u) r) (omega (arith, ints, up)) h in
        let o = ordered in
        let straight : turn_at (low_end K u) (high_end K u) r ≡ pos 0 =
        zero_product rise_w (turn_at (low_end K u) (high_end K u) r) (λ e. omega (arith, ints, up, e)) (omega (arith, ints, o, none, first)) in
        lies_on K u (low_end K u) (high_end K u) ends r straight spans.from spans.to

  -- ---- one clearly west of the other

  -- the first is west of the second at the height of a place
  abbrev AreParted : Rational → Type 0
  AreParted r = (rise_w *ℤ turn_at (low_end K u) (high_end K u) r) <ℤ (rise_u *ℤ turn_at (low_end K w) (high_end K w) r)

  parted_first : (p : Point) → turn_of (low_end K u) (high_end K u) p ≡ pos 0 → pos 0 <ℤ turn_to K w p → AreParted (whole p)
  parted_first p zero west =
      let none : rise_w *ℤ turn_at (low_end K u) (high_end K u) (whole p) ≡ pos 0 = ap (λ z. rise_w *ℤ z) (turn_whole (low_end K u) (high_end K u) p ∙ zero) ∙ times_zero rise_w in
      let more : pos 0 <ℤ (rise_u *ℤ turn_at (low_end K w) (high_end K w) (whole p)) =
      product_above rise_u (turn_at (low_end K w) (high_end K w) (whole p)) up_u (subst (λ z. pos 0 <ℤ z) (sym (turn_whole (low_end K w) (high_end K w) p)) west) in
      omega (arith, ints, none, more)

  parted_second : (p : Point) → turn_of (low_end K w) (high_end K w) p ≡ pos 0 → turn_to K u p <ℤ pos 0 → AreParted (whole p)
  parted_second p zero east =
      let none : rise_u *ℤ turn_at (low_end K w) (high_end K w) (whole p) ≡ pos 0 = ap (λ z. rise_u *ℤ z) (turn_whole (low_end K w) (high_end K w) p ∙ zero) ∙ times_zero rise_u in
      let less : (rise_w *ℤ turn_at (low_end K u) (high_end K u) (whole p)) <ℤ (rise_w *ℤ pos 0) =
      mono_lt rise_w (turn_at (low_end K u) (high_end K u) (whole p)) (pos 0) up_w (subst (λ z. z <ℤ pos 0) (sym (turn_whole (low_end K u) (high_end K u) p)) east) in
      omega (arith, ints, none, less, times_zero rise_w)

  pub clearly_apart : IsClearlyWestOf K u w → AreApart u w
  clearly_apart west r shared =
      let up = above_zero K u.a u.b near in
      let own = heights_of K u (low_end K u) (high_end K u) ends r shared.on_first in
      let own' = heights_of K w (low_end K w) (high_end K w) ends' r shared.on_second in
      let carried : (p q : Point) → AreParted (whole p) → AreParted (whole q) → (r.d *ℤ height K p) ≤ℤ height_of K r → height_of K r ≤ℤ (r.d *ℤ height K q) → AreParted r =
      λ p q. west_between K (low_end K u) (high_end K u) (low_end K w) (high_end K w) up p q r in
      let low_u : pos 0 <ℤ turn_to K w (low_end K u) → AreParted (whole (low_end K u)) = parted_first (low_end K u) (turn_first (low_end K u) (high_end K u)) in
      let low_w : turn_to K u (low_end K w) <ℤ pos 0 → AreParted (whole (low_end K w)) = parted_second (low_end K w) (turn_first (low_end K w) (high_end K w)) in
      let high_u : pos 0 <ℤ turn_to K w (high_end K u) → AreParted (whole (high_end K u)) = parted_first (high_end K u) (turn_last (low_end K u) (high_end K u)) in
      let high_w : turn_to K u (high_end K w) <ℤ pos 0 → AreParted (whole (high_end K w)) = parted_second (high_end K w) (turn_last (low_end K w) (high_end K w)) in
      let parted : AreParted r =
      ⊎_elim
      (λ l. ⊎_elim (λ h. carried (low_end K u) (high_end K u) (low_u l) (high_u h) own.1 own.2) (λ h. carried (low_end K u) (high_end K w) (low_u l) (high_w h) own.1 own'.2) west.above)
      (λ l. ⊎_elim (λ h. carried (low_end K w) (high_end K u) (low_w l) (high_u h) own'.1 own.2) (λ h. carried (low_end K w) (high_end K w) (low_w l) (high_w h) own'.1 own'.2) west.above)
      west.below in
      let none : rise_w *ℤ turn_at (low_end K u) (high_end K u) r ≡ pos 0 = ap (λ z. rise_w *ℤ z) own.0 ∙ times_zero rise_w in
      let none' : rise_u *ℤ turn_at (low_end K w) (high_end K w) r ≡ pos 0 = ap (λ z. rise_u *ℤ z) own'.0 ∙ times_zero rise_u in
      omega (arith, ints, parted, none, none')
