-- Lines that rise to the east by one part in K, so little that along them no end of a segment changes its place among latitudes.
use Rattle.std.proofs.Common.{◌≡◌, ◌⊎◌, inl, inr, ⊎_elim, ℤ, pos, ◌-ℤ◌, ◌*ℤ◌, ◌<ℤ◌, ◌≤ℤ◌, ap, sym, subst, ◌∙◌, arith}
use Rattle.std.proofs.lemmas.Int.{ints, by_lt_z}
use Rattle.tl_geom.specs.declared.point.Point.{Point}
use Rattle.tl_geom.specs.declared.rational.Rational.{Rational}
use Rattle.tl_geom.specs.declared.segment.Segment.{Segment}
use Rattle.tl_geom.specs.Plane.{IsSame, whole}
use Rattle.tl_geom.proofs.Polynomials.{num, ◌⊖◌, ◌⊗◌, same}
use Rattle.tl_geom.proofs.Signs.{mono, cancel_lt, cancel_le, product_at_least, zero_product}
use Rattle.tl_check_planar.proofs.Ends.{same_by_products}
use Rattle.tl_check_planar.specs.ByHeight.Heights.{height, height_of, AreNear, low_end, high_end, turn_at}
use Rattle.tl_check_planar.proofs.ByHeight.Rising.{AreEndsOf, ends_of}
use Rattle.tl_check_faces.proofs.Crossing.{IsEastUp, IsWestUp, IsEast, IsWest}

-- K is above the difference of the longitudes of a rational point and a point, over the d of the first
pub record IsNearTo (K : ℤ) (r : Rational) (a : Point) : Type 0 where
  pub west : (r.x -ℤ r.d *ℤ a.x) <ℤ K
  pub east : (r.d *ℤ a.x -ℤ r.x) <ℤ K

-- ---- heights and latitudes

rise_to : (K : ℤ) (r : Rational) (a : Point) → r.d *ℤ height K a -ℤ height_of K r ≡ K *ℤ (r.d *ℤ a.y -ℤ r.y) -ℤ (r.d *ℤ a.x -ℤ r.x)
rise_to K r a =
    let k = num K in let d = num r.d in
    same (d ⊗ (k ⊗ num a.y ⊖ num a.x) ⊖ (k ⊗ num r.y ⊖ num r.x)) (k ⊗ (d ⊗ num a.y ⊖ num r.y) ⊖ (d ⊗ num a.x ⊖ num r.x)) (omega arith)

module _ (K : ℤ) (r : Rational) (a : Point) (near : IsNearTo K r a) where
  steep : pos 0 <ℤ K
  steep = let w = near.west in let e = near.east in omega (arith, ints, w, e)

  one_part : K *ℤ pos 1 ≡ K
  one_part = same (num K ⊗ num (pos 1)) (num K) (omega arith)

  pub north : r.y <ℤ (r.d *ℤ a.y) → height_of K r <ℤ (r.d *ℤ height K a)
  north up =
      let positive = steep in
      let more : (K *ℤ pos 1) ≤ℤ (K *ℤ (r.d *ℤ a.y -ℤ r.y)) = mono K (pos 1) (r.d *ℤ a.y -ℤ r.y) (omega (arith, ints, positive)) (omega (arith, ints, up)) in
      let is = rise_to K r a in let one = one_part in let e = near.east in
      omega (arith, ints, more, is, one, e)

  pub south : (r.d *ℤ a.y) <ℤ r.y → (r.d *ℤ height K a) <ℤ height_of K r
  south down =
      let positive = steep in
      let more : (K *ℤ pos 1) ≤ℤ (K *ℤ (r.y -ℤ r.d *ℤ a.y)) = mono K (pos 1) (r.y -ℤ r.d *ℤ a.y) (omega (arith, ints, positive)) (omega (arith, ints, down)) in
      let back : K *ℤ (r.d *ℤ a.y -ℤ r.y) ≡ pos 0 -ℤ K *ℤ (r.y -ℤ r.d *ℤ a.y) = same (num K ⊗ (num r.d ⊗ num a.y ⊖ num r.y)) (num (pos 0) ⊖ num K ⊗ (num r.y ⊖ num r.d ⊗ num a.y)) (omega arith) in
      let is = rise_to K r a in let one = one_part in let w = near.west in
      omega (arith, ints, more, is, one, w, back)

  pub level : r.d *ℤ a.y ≡ r.y → r.d *ℤ height K a -ℤ height_of K r ≡ r.x -ℤ r.d *ℤ a.x
  level e =
      let none : K *ℤ (r.d *ℤ a.y -ℤ r.y) ≡ K *ℤ pos 0 = ap (λ z. K *ℤ z) (let z : r.d *ℤ a.y -ℤ r.y ≡ pos 0 = omega (arith, ints, e) in z) in
      let zero : K *ℤ pos 0 ≡ pos 0 = same (num K ⊗ num (pos 0)) (num (pos 0)) (omega arith) in
      let is = rise_to K r a in
      omega (arith, ints, none, zero, is)

  pub not_north : (r.d *ℤ height K a) ≤ℤ height_of K r → (r.d *ℤ a.y) ≤ℤ r.y
  not_north le = by_lt_z r.y (r.d *ℤ a.y) (λ up. absurd (let h = north up in omega (arith, ints, h, le))) (λ k. k)

  pub not_south : height_of K r ≤ℤ (r.d *ℤ height K a) → r.y ≤ℤ (r.d *ℤ a.y)
  not_south le = by_lt_z (r.d *ℤ a.y) r.y (λ down. absurd (let h = south down in omega (arith, ints, h, le))) (λ k. k)

  -- a point of one height is one place
  pub one_height : r.d *ℤ height K a ≡ height_of K r → IsSame r (whole a)
  one_height e =
      let low = not_north (omega (arith, ints, e)) in
      let high = not_south (omega (arith, ints, e)) in
      let y : r.d *ℤ a.y ≡ r.y = omega (arith, ints, low, high) in
      let x = level y in
      let back_x : a.x *ℤ r.d ≡ r.d *ℤ a.x = same (num a.x ⊗ num r.d) (num r.d ⊗ num a.x) (omega arith) in
      let back_y : a.y *ℤ r.d ≡ r.d *ℤ a.y = same (num a.y ⊗ num r.d) (num r.d ⊗ num a.y) (omega arith) in
      same_by_products r a (omega (arith, ints, x, e, back_x)) (omega (arith, ints, y, back_y))

-- ---- turns at the latitude of an end

turn_first : (a b : Point) (r : Rational) → r.d *ℤ a.y ≡ r.y → turn_at a b r ≡ (b.y -ℤ a.y) *ℤ (r.d *ℤ a.x -ℤ r.x)
turn_first a b r e =
    ap (λ y. (b.x -ℤ a.x) *ℤ (y -ℤ r.d *ℤ a.y) -ℤ (b.y -ℤ a.y) *ℤ (r.x -ℤ r.d *ℤ a.x)) (sym e)
    ∙ (let d = num r.d in let ay = num a.y in let ax = num a.x in
    same ((num b.x ⊖ ax) ⊗ (d ⊗ ay ⊖ d ⊗ ay) ⊖ (num b.y ⊖ ay) ⊗ (num r.x ⊖ d ⊗ ax)) ((num b.y ⊖ ay) ⊗ (d ⊗ ax ⊖ num r.x)) (omega arith))

turn_last : (a b : Point) (r : Rational) → r.d *ℤ b.y ≡ r.y → turn_at a b r ≡ (b.y -ℤ a.y) *ℤ (r.d *ℤ b.x -ℤ r.x)
turn_last a b r e =
    ap (λ y. (b.x -ℤ a.x) *ℤ (y -ℤ r.d *ℤ a.y) -ℤ (b.y -ℤ a.y) *ℤ (r.x -ℤ r.d *ℤ a.x)) (sym e)
    ∙ (let d = num r.d in let ay = num a.y in let ax = num a.x in let by = num b.y in let bx = num b.x in
    same ((bx ⊖ ax) ⊗ (d ⊗ by ⊖ d ⊗ ay) ⊖ (by ⊖ ay) ⊗ (num r.x ⊖ d ⊗ ax)) ((by ⊖ ay) ⊗ (d ⊗ bx ⊖ num r.x)) (omega arith))

flipped : (w z : ℤ) → w *ℤ (pos 0 -ℤ z) ≡ pos 0 -ℤ w *ℤ z
flipped w z = same (num w ⊗ (num (pos 0) ⊖ num z)) (num (pos 0) ⊖ num w ⊗ num z) (omega arith)

-- no product of a rise that isn't below 0 is above 0 where the other factor isn't, or below 0 where the other factor isn't
not_above : (w z t : ℤ) → pos 0 ≤ℤ w → t ≡ w *ℤ z → pos 0 <ℤ t → pos 0 <ℤ z
not_above w z t h e above =
    by_lt_z (pos 0) z (λ k. k)
    (λ le. absurd (let more = product_at_least w (pos 0 -ℤ z) h (omega (arith, ints, le)) in let f = flipped w z in omega (arith, ints, more, f, e, above)))

not_below : (w z t : ℤ) → pos 0 ≤ℤ w → t ≡ w *ℤ z → t <ℤ pos 0 → z <ℤ pos 0
not_below w z t h e below =
    by_lt_z z (pos 0) (λ k. k)
    (λ le. absurd (let more = product_at_least w z h le in omega (arith, ints, more, e, below)))

-- ---- of the way from a up to b

module _ (K : ℤ) (r : Rational) (a b : Point) (near : IsNearTo K r a) (near' : IsNearTo K r b) where
  rising : (r.d *ℤ a.y) ≤ℤ r.y → r.y ≤ℤ (r.d *ℤ b.y) → pos 0 ≤ℤ (b.y -ℤ a.y)
  rising low high = let le : a.y ≤ℤ b.y = cancel_le r.d a.y b.y r.above_zero (omega (arith, ints, low, high)) in omega (arith, ints, le)

  pub east_by_height : (r.d *ℤ height K a) <ℤ height_of K r → height_of K r <ℤ (r.d *ℤ height K b) → pos 0 <ℤ turn_at a b r → IsEastUp a b r
  east_by_height from to turn =
      let low : (r.d *ℤ a.y) ≤ℤ r.y = not_north K r a near (omega (arith, ints, from)) in
      let top : r.y ≤ℤ (r.d *ℤ b.y) = not_south K r b near' (omega (arith, ints, to)) in
      record {
        low = low;
        high = by_lt_z r.y (r.d *ℤ b.y) (λ k. k)
            (λ le. absurd (
            let e : r.d *ℤ b.y ≡ r.y = omega (arith, ints, le, top) in
            let x = level K r b near' e in
            let past = not_above (b.y -ℤ a.y) (r.d *ℤ b.x -ℤ r.x) (turn_at a b r) (rising low top) (turn_last a b r e) turn in
            omega (arith, ints, x, past, to)));
        turn = turn;
      }

  pub height_by_east : IsEastUp a b r → ((r.d *ℤ height K a) <ℤ height_of K r) × (height_of K r <ℤ (r.d *ℤ height K b))
  height_by_east k =
      let low : (r.d *ℤ a.y) ≤ℤ r.y = k.low in
      let high : r.y <ℤ (r.d *ℤ b.y) = k.high in (
        by_lt_z (r.d *ℤ a.y) r.y (λ lt. south K r a near lt)
            (λ le.
            let e : r.d *ℤ a.y ≡ r.y = omega (arith, ints, le, low) in
            let x = level K r a near e in
            let past = not_above (b.y -ℤ a.y) (r.d *ℤ a.x -ℤ r.x) (turn_at a b r) (rising low (omega (arith, ints, high))) (turn_first a b r e) k.turn in
            omega (arith, ints, x, past)),
        north K r b near' high,
      )

  pub west_by_height : (r.d *ℤ height K a) <ℤ height_of K r → height_of K r <ℤ (r.d *ℤ height K b) → turn_at a b r <ℤ pos 0 → IsWestUp a b r
  west_by_height from to turn =
      let low : (r.d *ℤ a.y) ≤ℤ r.y = not_north K r a near (omega (arith, ints, from)) in
      let top : r.y ≤ℤ (r.d *ℤ b.y) = not_south K r b near' (omega (arith, ints, to)) in
      record {
        low = by_lt_z (r.d *ℤ a.y) r.y (λ k. k)
            (λ le. absurd (
            let e : r.d *ℤ a.y ≡ r.y = omega (arith, ints, le, low) in
            let x = level K r a near e in
            let past = not_below (b.y -ℤ a.y) (r.d *ℤ a.x -ℤ r.x) (turn_at a b r) (rising low top) (turn_first a b r e) turn in
            omega (arith, ints, x, past, from)));
        high = top;
        turn = turn;
      }

  pub height_by_west : IsWestUp a b r → ((r.d *ℤ height K a) <ℤ height_of K r) × (height_of K r <ℤ (r.d *ℤ height K b))
  height_by_west k =
      let low : (r.d *ℤ a.y) <ℤ r.y = k.low in
      let high : r.y ≤ℤ (r.d *ℤ b.y) = k.high in (
        south K r a near low,
        by_lt_z r.y (r.d *ℤ b.y) (λ lt. north K r b near' lt)
            (λ le.
            let e : r.d *ℤ b.y ≡ r.y = omega (arith, ints, le, high) in
            let x = level K r b near' e in
            let past = not_below (b.y -ℤ a.y) (r.d *ℤ b.x -ℤ r.x) (turn_at a b r) (rising (omega (arith, ints, low)) high) (turn_last a b r e) k.turn in
            omega (arith, ints, x, past)),
      )

  -- where there is no turn to r
  no_step : a.y <ℤ b.y → (z : ℤ) → turn_at a b r ≡ (b.y -ℤ a.y) *ℤ z → turn_at a b r ≡ pos 0 → z ≡ pos 0
  no_step up z e zero = zero_product (b.y -ℤ a.y) z (λ f. omega (arith, ints, f, up)) (sym e ∙ zero)

  pub height_by_latitude : turn_at a b r ≡ pos 0 → (r.d *ℤ a.y) ≤ℤ r.y → r.y ≤ℤ (r.d *ℤ b.y) → a.y <ℤ b.y → ((r.d *ℤ height K a) ≤ℤ height_of K r) × (height_of K r ≤ℤ (r.d *ℤ height K b))
  height_by_latitude zero low high up = (
    by_lt_z (r.d *ℤ a.y) r.y (λ lt. let h = south K r a near lt in omega (arith, ints, h))
        (λ le.
        let e : r.d *ℤ a.y ≡ r.y = omega (arith, ints, le, low) in
        let x = level K r a near e in
        let none = no_step up (r.d *ℤ a.x -ℤ r.x) (turn_first a b r e) zero in
        omega (arith, ints, x, none)),
    by_lt_z r.y (r.d *ℤ b.y) (λ lt. let h = north K r b near' lt in omega (arith, ints, h))
        (λ le.
        let e : r.d *ℤ b.y ≡ r.y = omega (arith, ints, le, high) in
        let x = level K r b near' e in
        let none = no_step up (r.d *ℤ b.x -ℤ r.x) (turn_last a b r e) zero in
        omega (arith, ints, x, none)),
  )

  pub latitude_by_height : turn_at a b r ≡ pos 0 → (r.d *ℤ height K a) <ℤ height_of K r → height_of K r <ℤ (r.d *ℤ height K b) → a.y <ℤ b.y → ((r.d *ℤ a.y) <ℤ r.y) × (r.y <ℤ (r.d *ℤ b.y))
  latitude_by_height zero from to up =
      let low : (r.d *ℤ a.y) ≤ℤ r.y = not_north K r a near (omega (arith, ints, from)) in
      let high : r.y ≤ℤ (r.d *ℤ b.y) = not_south K r b near' (omega (arith, ints, to)) in (
        by_lt_z (r.d *ℤ a.y) r.y (λ lt. lt)
            (λ le. absurd (
            let e : r.d *ℤ a.y ≡ r.y = omega (arith, ints, le, low) in
            let x = level K r a near e in
            let none = no_step up (r.d *ℤ a.x -ℤ r.x) (turn_first a b r e) zero in
            omega (arith, ints, x, none, from))),
        by_lt_z r.y (r.d *ℤ b.y) (λ lt. lt)
            (λ le. absurd (
            let e : r.d *ℤ b.y ≡ r.y = omega (arith, ints, le, high) in
            let x = level K r b near' e in
            let none = no_step up (r.d *ℤ b.x -ℤ r.x) (turn_last a b r e) zero in
            omega (arith, ints, x, none, to))),
      )

-- ---- of a segment

-- the height of r is strictly between those of the segment's ends
pub record IsSpanned (K : ℤ) (u : Segment) (r : Rational) : Type 0 where
  pub from : (r.d *ℤ height K (low_end K u)) <ℤ height_of K r
  pub to : height_of K r <ℤ (r.d *ℤ height K (high_end K u))

-- of two ends the lower and the higher one
pub straight : (K : ℤ) (u : Segment) (a b : Point) → AreEndsOf K u (low_end K u) (high_end K u) → ((a ≡ u.a) × (b ≡ u.b)) ⊎ ((a ≡ u.b) × (b ≡ u.a)) → height K a <ℤ height K b → (low_end K u ≡ a) × (high_end K u ≡ b)
straight K u a b ends are up =
    let rising = ends.rising in
    ⊎_elim
    (λ k. ⊎_elim (λ l. (k.0 ∙ sym l.0, k.1 ∙ sym l.1))
    (λ l. absurd (
    let e : height K (low_end K u) ≡ height K b = ap (height K) (k.0 ∙ sym l.1) in
    let f : height K (high_end K u) ≡ height K a = ap (height K) (k.1 ∙ sym l.0) in
    omega (arith, ints, rising, up, e, f))) are)
    (λ k. ⊎_elim
    (λ l. absurd (
    let e : height K (low_end K u) ≡ height K b = ap (height K) (k.0 ∙ sym l.1) in
    let f : height K (high_end K u) ≡ height K a = ap (height K) (k.1 ∙ sym l.0) in
    omega (arith, ints, rising, up, e, f)))
    (λ l. (k.0 ∙ sym l.0, k.1 ∙ sym l.1)) are) ends.are

module _ (K : ℤ) (r : Rational) (u : Segment) (ends_near : AreNear K u.a u.b) (near : IsNearTo K r u.a) (near' : IsNearTo K r u.b) where
  ends : AreEndsOf K u (low_end K u) (high_end K u)
  ends = ends_of K u ends_near

  lower : (a b : Point) → (r.d *ℤ height K a) <ℤ height_of K r → height_of K r <ℤ (r.d *ℤ height K b) → height K a <ℤ height K b
  lower a b from to = let positive : pos 0 <ℤ r.d = r.above_zero in cancel_lt r.d (height K a) (height K b) (omega (arith, ints, positive)) (omega (arith, ints, from, to))

  -- what is told of two of its ends is told of the lower and the higher one
  by_ends : (P : ℤ → Type 0) (a b : Point) → ((a ≡ u.a) × (b ≡ u.b)) ⊎ ((a ≡ u.b) × (b ≡ u.a)) → ((r.d *ℤ height K a) <ℤ height_of K r) × (height_of K r <ℤ (r.d *ℤ height K b)) → P (turn_at a b r) →
      IsSpanned K u r × P (turn_at (low_end K u) (high_end K u) r)
  by_ends P a b are between p =
      let is : (low_end K u ≡ a) × (high_end K u ≡ b) = straight K u a b ends are (lower a b between.0 between.1) in (
        record {
          from = subst (λ z. (r.d *ℤ height K z) <ℤ height_of K r) (sym is.0) between.0;
          to = subst (λ z. height_of K r <ℤ (r.d *ℤ height K z)) (sym is.1) between.1;
        },
        subst (λ z. P (turn_at z (high_end K u) r)) (sym is.0) (subst (λ z. P (turn_at a z r)) (sym is.1) p),
      )

  pub spanned_east : IsEast u r → IsSpanned K u r × (pos 0 <ℤ turn_at (low_end K u) (high_end K u) r)
  spanned_east = ⊎_elim
      (λ k. by_ends (λ z. pos 0 <ℤ z) u.a u.b (inl ((λ i. u.a), λ i. u.b)) (height_by_east K r u.a u.b near near' k) k.turn)
      (λ k. by_ends (λ z. pos 0 <ℤ z) u.b u.a (inr ((λ i. u.b), λ i. u.a)) (height_by_east K r u.b u.a near' near k) k.turn)

  pub spanned_west : IsWest u r → IsSpanned K u r × (turn_at (low_end K u) (high_end K u) r <ℤ pos 0)
  spanned_west = ⊎_elim
      (λ k. by_ends (λ z. z <ℤ pos 0) u.a u.b (inl ((λ i. u.a), λ i. u.b)) (height_by_west K r u.a u.b near near' k) k.turn)
      (λ k. by_ends (λ z. z <ℤ pos 0) u.b u.a (inr ((λ i. u.b), λ i. u.a)) (height_by_west K r u.b u.a near' near k) k.turn)

  pub east_spanned : IsSpanned K u r → pos 0 <ℤ turn_at (low_end K u) (high_end K u) r → IsEast u r
  east_spanned s turn = ⊎_elim
      (λ k. inl (subst (λ z. IsEastUp z u.b r) k.0 (subst (λ z. IsEastUp (low_end K u) z r) k.1 (east_by_height K r (low_end K u) (high_end K u) (low_near k.0 near) (low_near k.1 near') s.from s.to turn))))
      (λ k. inr (subst (λ z. IsEastUp z u.a r) k.0 (subst (λ z. IsEastUp (low_end K u) z r) k.1 (east_by_height K r (low_end K u) (high_end K u) (low_near k.0 near') (low_near k.1 near) s.from s.to turn))))
      ends.are
    where
      low_near : {a b : Point} → a ≡ b → IsNearTo K r b → IsNearTo K r a
      low_near e n = subst (λ z. IsNearTo K r z) (sym e) n

  pub west_spanned : IsSpanned K u r → turn_at (low_end K u) (high_end K u) r <ℤ pos 0 → IsWest u r
  west_spanned s turn = ⊎_elim
      (λ k. inl (subst (λ z. IsWestUp z u.b r) k.0 (subst (λ z. IsWestUp (low_end K u) z r) k.1 (west_by_height K r (low_end K u) (high_end K u) (low_near k.0 near) (low_near k.1 near') s.from s.to turn))))
      (λ k. inr (subst (λ z. IsWestUp z u.a r) k.0 (subst (λ z. IsWestUp (low_end K u) z r) k.1 (west_by_height K r (low_end K u) (high_end K u) (low_near k.0 near') (low_near k.1 near) s.from s.to turn))))
      ends.are
    where
      low_near : {a b : Point} → a ≡ b → IsNearTo K r b → IsNearTo K r a
      low_near e n = subst (λ z. IsNearTo K r z) (sym e) n
