-- A place lies on a segment exactly where the turn to it is 0 and its height is between those of the segment's ends.
--     heights_of       what lies on a segment is between its ends' heights, and there is no turn to it
--     lies_on       and the other way round
--     at_low, at_high       at the height of an end it is the end
use Rattle.std.proofs.Common.{◌≡◌, inl, inr, ⊎_elim, ℤ, pos, ◌+ℤ◌, ◌-ℤ◌, ◌*ℤ◌, ◌<ℤ◌, ◌≤ℤ◌, ap, ap₂, sym, subst, ◌∙◌, arith}
use Rattle.std.proofs.lemmas.Int.{ints}
use Rattle.tl_geom.specs.declared.point.Point.{Point}
use Rattle.tl_geom.specs.declared.rational.Rational.{Rational}
use Rattle.tl_geom.specs.declared.segment.Segment.{Segment}
use Rattle.tl_geom.specs.Plane.{IsOn, IsSame, IsBetween, whole}
use Rattle.tl_geom.proofs.Polynomials.{num, ◌⊕◌, ◌⊖◌, ◌⊗◌, same}
use Rattle.tl_geom.proofs.Signs.{mono_lt, product_at_least, at_least_of_product, square, square_above, product_above, between_product, product_between, times_zero, zero_product, sign}
use Rattle.tl_check_planar.proofs.Ends.{same_by_products}
use Rattle.tl_check_planar.specs.ByHeight.Heights.{height, height_of, turn_at}
use Rattle.tl_check_planar.proofs.ByHeight.Order.{rise, rise_of}
use Rattle.tl_check_planar.proofs.ByHeight.Rising.{AreEndsOf}
use Rattle.tl_geom.proofs.Contacts.{exchanged}

-- a place between two points, on their line
pub record IsOnFrom (a b : Point) (r : Rational) : Type 0 where
  pub straight : turn_at a b r ≡ pos 0
  pub x_between : IsBetween (r.d *ℤ a.x) (r.d *ℤ b.x) r.x
  pub y_between : IsBetween (r.d *ℤ a.y) (r.d *ℤ b.y) r.y

turned_by : (ax ay bx by x y d : ℤ) →
    (ax -ℤ bx) *ℤ (y -ℤ d *ℤ by) -ℤ (ay -ℤ by) *ℤ (x -ℤ d *ℤ bx) ≡ pos 0 -ℤ ((bx -ℤ ax) *ℤ (y -ℤ d *ℤ ay) -ℤ (by -ℤ ay) *ℤ (x -ℤ d *ℤ ax))
turned_by ax ay bx by x y d =
    let ax' = num ax in let ay' = num ay in let bx' = num bx in let by' = num by in let e = num d in
    same ((ax' ⊖ bx') ⊗ (num y ⊖ e ⊗ by') ⊖ (ay' ⊖ by') ⊗ (num x ⊖ e ⊗ bx'))
    (num (pos 0) ⊖ ((bx' ⊖ ax') ⊗ (num y ⊖ e ⊗ ay') ⊖ (by' ⊖ ay') ⊗ (num x ⊖ e ⊗ ax'))) (omega arith)

-- the turn by the same points the other way
pub turned : (a b : Point) (r : Rational) → turn_at b a r ≡ pos 0 -ℤ turn_at a b r
turned a b r = turned_by a.x a.y b.x b.y r.x r.y r.d

on_back : (a b : Point) (r : Rational) → IsOnFrom a b r → IsOnFrom b a r
on_back a b r on =
    let none = on.straight in
    record {
      straight = let back = turned a b r in omega (arith, ints, back, none);
      x_between = exchanged (r.d *ℤ a.x) (r.d *ℤ b.x) r.x on.x_between;
      y_between = exchanged (r.d *ℤ a.y) (r.d *ℤ b.y) r.y on.y_between;
    }

-- ---- how far along the way from the first point, by heights

along_x : (K u v X Y : ℤ) → (K *ℤ v -ℤ u) *ℤ X ≡ u *ℤ (K *ℤ Y -ℤ X) -ℤ K *ℤ (u *ℤ Y -ℤ v *ℤ X)
along_x K u v X Y =
    let k = num K in
    same ((k ⊗ num v ⊖ num u) ⊗ num X) (num u ⊗ (k ⊗ num Y ⊖ num X) ⊖ k ⊗ (num u ⊗ num Y ⊖ num v ⊗ num X)) (omega arith)

along_y : (K u v X Y : ℤ) → (K *ℤ v -ℤ u) *ℤ Y ≡ v *ℤ (K *ℤ Y -ℤ X) -ℤ (u *ℤ Y -ℤ v *ℤ X)
along_y K u v X Y =
    let k = num K in
    same ((k ⊗ num v ⊖ num u) ⊗ num Y) (num v ⊗ (k ⊗ num Y ⊖ num X) ⊖ (num u ⊗ num Y ⊖ num v ⊗ num X)) (omega arith)

-- and to the last point
rest_of : (U u d a b x g h : ℤ) → U *ℤ (x -ℤ d *ℤ a) ≡ u *ℤ g → u ≡ b -ℤ a → d *ℤ U ≡ g +ℤ h → U *ℤ (d *ℤ b -ℤ x) ≡ u *ℤ h
rest_of U u d a b x g h e f k =
    let all : U *ℤ (d *ℤ b -ℤ x) +ℤ U *ℤ (x -ℤ d *ℤ a) ≡ (d *ℤ U) *ℤ (b -ℤ a) =
    same (num U ⊗ (num d ⊗ num b ⊖ num x) ⊕ num U ⊗ (num x ⊖ num d ⊗ num a)) (num d ⊗ num U ⊗ (num b ⊖ num a)) (omega arith) in
    let parts : (g +ℤ h) *ℤ u ≡ u *ℤ g +ℤ u *ℤ h = same ((num g ⊕ num h) ⊗ num u) (num u ⊗ num g ⊕ num u ⊗ num h) (omega arith) in
    let one : (d *ℤ U) *ℤ (b -ℤ a) ≡ (g +ℤ h) *ℤ u = ap₂ (λ s t. s *ℤ t) k (sym f) in
    omega (arith, ints, all, parts, one, e)

squared : (U u X V g h : ℤ) → U *ℤ X ≡ u *ℤ g → U *ℤ V ≡ u *ℤ h → (U *ℤ U) *ℤ (X *ℤ V) ≡ (u *ℤ u) *ℤ (g *ℤ h)
squared U u X V g h e f =
    same (num U ⊗ num U ⊗ (num X ⊗ num V)) (num U ⊗ num X ⊗ (num U ⊗ num V)) (omega arith)
    ∙ ap₂ (λ s t. s *ℤ t) e f
    ∙ same (num u ⊗ num g ⊗ (num u ⊗ num h)) (num u ⊗ num u ⊗ (num g ⊗ num h)) (omega arith)

-- a line that rises from a to b, and a place on it
module _ (K : ℤ) (a b : Point) (rising : height K a <ℤ height K b) (r : Rational) where
  abbrev whole_rise : ℤ
  whole_rise = height K b -ℤ height K a

  abbrev begun : ℤ
  begun = height_of K r -ℤ r.d *ℤ height K a

  abbrev left : ℤ
  left = r.d *ℤ height K b -ℤ height_of K r

  up : pos 0 <ℤ whole_rise
  up = omega (arith, ints, rising)

  sum : r.d *ℤ whole_rise ≡ begun +ℤ left
  sum =
      let all : r.d *ℤ whole_rise ≡ r.d *ℤ height K b -ℤ r.d *ℤ height K a = same (num r.d ⊗ (num (height K b) ⊖ num (height K a))) (num r.d ⊗ num (height K b) ⊖ num r.d ⊗ num (height K a)) (omega arith) in
      omega (arith, ints, all)

  module _ (straight : turn_at a b r ≡ pos 0) where
    x_begun : whole_rise *ℤ (r.x -ℤ r.d *ℤ a.x) ≡ (b.x -ℤ a.x) *ℤ begun
    x_begun =
        let by = along_x K (b.x -ℤ a.x) (b.y -ℤ a.y) (r.x -ℤ r.d *ℤ a.x) (r.y -ℤ r.d *ℤ a.y) in
        let none : K *ℤ turn_at a b r ≡ pos 0 = ap (λ z. K *ℤ z) straight ∙ times_zero K in
        let first : whole_rise *ℤ (r.x -ℤ r.d *ℤ a.x) ≡ (K *ℤ (b.y -ℤ a.y) -ℤ (b.x -ℤ a.x)) *ℤ (r.x -ℤ r.d *ℤ a.x) = ap (λ z. z *ℤ (r.x -ℤ r.d *ℤ a.x)) (rise K a b) in
        let last : (b.x -ℤ a.x) *ℤ begun ≡ (b.x -ℤ a.x) *ℤ (K *ℤ (r.y -ℤ r.d *ℤ a.y) -ℤ (r.x -ℤ r.d *ℤ a.x)) = ap (λ z. (b.x -ℤ a.x) *ℤ z) (rise_of K a r) in
        omega (arith, ints, by, none, first, last)

    y_begun : whole_rise *ℤ (r.y -ℤ r.d *ℤ a.y) ≡ (b.y -ℤ a.y) *ℤ begun
    y_begun =
        let by = along_y K (b.x -ℤ a.x) (b.y -ℤ a.y) (r.x -ℤ r.d *ℤ a.x) (r.y -ℤ r.d *ℤ a.y) in
        let first : whole_rise *ℤ (r.y -ℤ r.d *ℤ a.y) ≡ (K *ℤ (b.y -ℤ a.y) -ℤ (b.x -ℤ a.x)) *ℤ (r.y -ℤ r.d *ℤ a.y) = ap (λ z. z *ℤ (r.y -ℤ r.d *ℤ a.y)) (rise K a b) in
        let last : (b.y -ℤ a.y) *ℤ begun ≡ (b.y -ℤ a.y) *ℤ (K *ℤ (r.y -ℤ r.d *ℤ a.y) -ℤ (r.x -ℤ r.d *ℤ a.x)) = ap (λ z. (b.y -ℤ a.y) *ℤ z) (rise_of K a r) in
        omega (arith, ints, by, straight, first, last)

    x_squared : (whole_rise *ℤ whole_rise) *ℤ ((r.x -ℤ r.d *ℤ a.x) *ℤ (r.d *ℤ b.x -ℤ r.x)) ≡ ((b.x -ℤ a.x) *ℤ (b.x -ℤ a.x)) *ℤ (begun *ℤ left)
    x_squared =
        squared whole_rise (b.x -ℤ a.x) (r.x -ℤ r.d *ℤ a.x) (r.d *ℤ b.x -ℤ r.x) begun left x_begun
        (rest_of whole_rise (b.x -ℤ a.x) r.d a.x b.x r.x begun left x_begun (λ i. b.x -ℤ a.x) sum)

    y_squared : (whole_rise *ℤ whole_rise) *ℤ ((r.y -ℤ r.d *ℤ a.y) *ℤ (r.d *ℤ b.y -ℤ r.y)) ≡ ((b.y -ℤ a.y) *ℤ (b.y -ℤ a.y)) *ℤ (begun *ℤ left)
    y_squared =
        squared whole_rise (b.y -ℤ a.y) (r.y -ℤ r.d *ℤ a.y) (r.d *ℤ b.y -ℤ r.y) begun left y_begun
        (rest_of whole_rise (b.y -ℤ a.y) r.d a.y b.y r.y begun left y_begun (λ i. b.y -ℤ a.y) sum)

    -- where neither coordinate has a step, nothing rises
    some_step : b.x -ℤ a.x ≡ pos 0 → b.y -ℤ a.y ≡ pos 0 → ⊥
    some_step e f =
        let none : K *ℤ (b.y -ℤ a.y) ≡ pos 0 = ap (λ z. K *ℤ z) f ∙ times_zero K in
        omega (arith, ints, rising, e, none, rise K a b)

    pub on_by_height : pos 0 ≤ℤ begun → pos 0 ≤ℤ left → IsOnFrom a b r
    on_by_height from to =
        let between : pos 0 ≤ℤ (begun *ℤ left) = product_at_least begun left from to in
        let wide : pos 0 <ℤ (whole_rise *ℤ whole_rise) = product_above whole_rise whole_rise up up in
        record {
          straight = straight;
          x_between =
              product_between (r.d *ℤ a.x) (r.d *ℤ b.x) r.x
              (at_least_of_product (whole_rise *ℤ whole_rise) ((r.x -ℤ r.d *ℤ a.x) *ℤ (r.d *ℤ b.x -ℤ r.x)) wide
              (subst (λ z. pos 0 ≤ℤ z) (sym x_squared) (product_at_least ((b.x -ℤ a.x) *ℤ (b.x -ℤ a.x)) (begun *ℤ left) (square (b.x -ℤ a.x)) between)));
          y_between =
              product_between (r.d *ℤ a.y) (r.d *ℤ b.y) r.y
              (at_least_of_product (whole_rise *ℤ whole_rise) ((r.y -ℤ r.d *ℤ a.y) *ℤ (r.d *ℤ b.y -ℤ r.y)) wide
              (subst (λ z. pos 0 ≤ℤ z) (sym y_squared) (product_at_least ((b.y -ℤ a.y) *ℤ (b.y -ℤ a.y)) (begun *ℤ left) (square (b.y -ℤ a.y)) between)));
        }

    -- ---- at the height of an end

    by_cancelled : (v d p : ℤ) → whole_rise *ℤ (v -ℤ d *ℤ p) ≡ pos 0 → v ≡ p *ℤ d
    by_cancelled v d p e =
        let none : v -ℤ d *ℤ p ≡ pos 0 = zero_product whole_rise (v -ℤ d *ℤ p) (λ z. let h = up in omega (arith, ints, h, z)) e in
        let back : d *ℤ p ≡ p *ℤ d = same (num d ⊗ num p) (num p ⊗ num d) (omega arith) in
        omega (arith, ints, none, back)

    pub at_first : begun ≡ pos 0 → IsSame r (whole a)
    at_first e =
        same_by_products r a
        (by_cancelled r.x r.d a.x (x_begun ∙ ap (λ z. (b.x -ℤ a.x) *ℤ z) e ∙ times_zero (b.x -ℤ a.x)))
        (by_cancelled r.y r.d a.y (y_begun ∙ ap (λ z. (b.y -ℤ a.y) *ℤ z) e ∙ times_zero (b.y -ℤ a.y)))

    by_cancelled_last : (v d p : ℤ) → whole_rise *ℤ (d *ℤ p -ℤ v) ≡ pos 0 → v ≡ p *ℤ d
    by_cancelled_last v d p e =
        let none : d *ℤ p -ℤ v ≡ pos 0 = zero_product whole_rise (d *ℤ p -ℤ v) (λ z. let h = up in omega (arith, ints, h, z)) e in
        let back : d *ℤ p ≡ p *ℤ d = same (num d ⊗ num p) (num p ⊗ num d) (omega arith) in
        omega (arith, ints, none, back)

    pub at_last : left ≡ pos 0 → IsSame r (whole b)
    at_last e =
        same_by_products r b
        (by_cancelled_last r.x r.d b.x (rest_of whole_rise (b.x -ℤ a.x) r.d a.x b.x r.x begun left x_begun (λ i. b.x -ℤ a.x) sum ∙ ap (λ z. (b.x -ℤ a.x) *ℤ z) e ∙ times_zero (b.x -ℤ a.x)))
        (by_cancelled_last r.y r.d b.y (rest_of whole_rise (b.y -ℤ a.y) r.d a.y b.y r.y begun left y_begun (λ i. b.y -ℤ a.y) sum ∙ ap (λ z. (b.y -ℤ a.y) *ℤ z) e ∙ times_zero (b.y -ℤ a.y)))

  -- ---- and what lies there has a height between

  by_square : (u X : ℤ) → (whole_rise *ℤ whole_rise) *ℤ X ≡ (u *ℤ u) *ℤ (begun *ℤ left) → pos 0 ≤ℤ X → ¬ (u ≡ pos 0) → pos 0 ≤ℤ (begun *ℤ left)
  by_square u X e at_least step =
      at_least_of_product (u *ℤ u) (begun *ℤ left) (square_above u step)
      (subst (λ z. pos 0 ≤ℤ z) e (product_at_least (whole_rise *ℤ whole_rise) X (square whole_rise) at_least))

  ordered : pos 0 ≤ℤ (begun *ℤ left) → ((r.d *ℤ height K a) ≤ℤ height_of K r) × (height_of K r ≤ℤ (r.d *ℤ height K b))
  ordered h =
      ⊎_elim (λ k. k)
      (λ k. absurd (
      let more : (r.d *ℤ height K a) <ℤ (r.d *ℤ height K b) = mono_lt r.d (height K a) (height K b) r.above_zero rising in
      omega (arith, ints, more, k.0, k.1)))
      (product_between (r.d *ℤ height K a) (r.d *ℤ height K b) (height_of K r) h)

  pub heights_from : IsOnFrom a b r → ((r.d *ℤ height K a) ≤ℤ height_of K r) × (height_of K r ≤ℤ (r.d *ℤ height K b))
  heights_from on =
      let x : pos 0 ≤ℤ ((r.x -ℤ r.d *ℤ a.x) *ℤ (r.d *ℤ b.x -ℤ r.x)) = between_product (r.d *ℤ a.x) (r.d *ℤ b.x) r.x on.x_between in
      let y : pos 0 ≤ℤ ((r.y -ℤ r.d *ℤ a.y) *ℤ (r.d *ℤ b.y -ℤ r.y)) = between_product (r.d *ℤ a.y) (r.d *ℤ b.y) r.y on.y_between in
      let by_x : ¬ (b.x -ℤ a.x ≡ pos 0) → pos 0 ≤ℤ (begun *ℤ left) = by_square (b.x -ℤ a.x) ((r.x -ℤ r.d *ℤ a.x) *ℤ (r.d *ℤ b.x -ℤ r.x)) (x_squared on.straight) x in
      let by_y : ¬ (b.y -ℤ a.y ≡ pos 0) → pos 0 ≤ℤ (begun *ℤ left) = by_square (b.y -ℤ a.y) ((r.y -ℤ r.d *ℤ a.y) *ℤ (r.d *ℤ b.y -ℤ r.y)) (y_squared on.straight) y in
      ordered (
      ⊎_elim (λ less. by_x (λ e. omega (arith, ints, less, e)))
      (λ rest. ⊎_elim (λ none. by_y (λ e. some_step on.straight none e)) (λ more. by_x (λ e. omega (arith, ints, more, e))) rest)
      (sign (b.x -ℤ a.x))
      )

-- ---- of a segment

module _ (K : ℤ) (s : Segment) (low high : Point) (ends : AreEndsOf K s low high) (r : Rational) where
  pub from_low : IsOn s r → IsOnFrom low high r
  from_low on =
      let along : IsOnFrom s.a s.b r = record { straight = on.straight; x_between = on.x_between; y_between = on.y_between } in
      ⊎_elim (λ k. subst (λ p. IsOnFrom p high r) (sym k.0) (subst (λ p. IsOnFrom s.a p r) (sym k.1) along))
      (λ k. subst (λ p. IsOnFrom p high r) (sym k.0) (subst (λ p. IsOnFrom s.b p r) (sym k.1) (on_back s.a s.b r along))) ends.are

  to_segment : IsOnFrom s.a s.b r → IsOn s r
  to_segment on = record { straight = on.straight; x_between = on.x_between; y_between = on.y_between }

  pub by_low : IsOnFrom low high r → IsOn s r
  by_low on =
      ⊎_elim (λ k. to_segment (subst (λ p. IsOnFrom p s.b r) k.0 (subst (λ p. IsOnFrom low p r) k.1 on)))
      (λ k. to_segment (on_back s.b s.a r (subst (λ p. IsOnFrom p s.a r) k.0 (subst (λ p. IsOnFrom low p r) k.1 on)))) ends.are

  pub heights_of : IsOn s r → (turn_at low high r ≡ pos 0) × ((r.d *ℤ height K low) ≤ℤ height_of K r) × (height_of K r ≤ℤ (r.d *ℤ height K high))
  heights_of on =
      let along : IsOnFrom low high r = from_low on in
      let heights = heights_from K low high ends.rising r along in
      (along.straight, heights.0, heights.1)

  pub lies_on : turn_at low high r ≡ pos 0 → (r.d *ℤ height K low) ≤ℤ height_of K r → height_of K r ≤ℤ (r.d *ℤ height K high) → IsOn s r
  lies_on straight from to = by_low (on_by_height K low high ends.rising r straight (omega (arith, ints, from)) (omega (arith, ints, to)))
