-- Near a place strictly within a segment, on which side of it a place lies, and whether the rays pass it there.
use Rattle.std.proofs.Common.{◌≡◌, ◌⊎◌, inl, inr, ⊎_elim, ℕ, ℤ, pos, ◌-ℤ◌, ◌*ℤ◌, ◌<ℤ◌, ◌≤ℤ◌, List, sym, ap, subst, ◌∙◌, arith}
use Rattle.std.proofs.lemmas.Int.{ints, by_lt_z}
use Rattle.tl_geom.specs.declared.point.Point.{Point}
use Rattle.tl_geom.specs.declared.rational.Rational.{Rational}
use Rattle.tl_geom.specs.declared.segment.Segment.{Segment}
use Rattle.tl_geom.proofs.Polynomials.{num, ◌⊖◌, ◌⊗◌, same}
use Rattle.tl_geom.proofs.Signs.{mono, product_at_least}
use Rattle.tl_map_county.specs.TheMap.{MapChain}
use Rattle.tl_check_planar.proofs.Numbering.{HaveSameEnds}
use Rattle.tl_check_planar.specs.ByHeight.Heights.{height, height_of, AreNear, low_end, high_end, turn_at}
use Rattle.tl_check_planar.specs.ByHeight.Neighbours.{IsNumbered}
use Rattle.tl_check_planar.proofs.ByHeight.Rising.{AreEndsOf, ends_of, higher}
use Rattle.tl_check_planar.proofs.ByHeight.Numbered.{one_segment}
use Rattle.tl_check_faces.specs.Facing.{step_y}
use Rattle.tl_check_faces.specs.Truth.{IsNearer}
use Rattle.tl_check_faces.proofs.Crossing.{IsEastUp, IsWestUp, IsEast, IsWest}
use Rattle.tl_check_faces.proofs.Steep.{IsNearTo, IsSpanned, not_north, not_south, latitude_by_height}
use Rattle.tl_check_faces.proofs.Bounds.{IsSteep}
use Rattle.tl_check_faces.proofs.Near.{north_stays, south_stays, not_north_stays, not_south_stays}
use Rattle.tl_check_faces.proofs.OnePolygon.{IsEastHit, IsWestHit}
use Rattle.tl_check_faces.proofs.Others.{widest_of, nearness, wide_enough}

-- where the line of two points is level, the turn to a place by how much further north it is
level_turn : (a b : Point) (q : Rational) → b.y ≡ a.y → turn_at a b q ≡ (b.x -ℤ a.x) *ℤ (q.y -ℤ q.d *ℤ a.y)
level_turn a b q e =
    ap (λ y. (b.x -ℤ a.x) *ℤ (q.y -ℤ q.d *ℤ a.y) -ℤ (y -ℤ a.y) *ℤ (q.x -ℤ q.d *ℤ a.x)) e
    ∙ same ((num b.x ⊖ num a.x) ⊗ (num q.y ⊖ num q.d ⊗ num a.y) ⊖ (num a.y ⊖ num a.y) ⊗ (num q.x ⊖ num q.d ⊗ num a.x)) ((num b.x ⊖ num a.x) ⊗ (num q.y ⊖ num q.d ⊗ num a.y)) (omega arith)

module _ (chains : List MapChain) (n : ℕ) (K : ℤ) (r : Rational) (steep : IsSteep K chains r) (s : ℕ) (u : Segment) (is : IsNumbered chains s u) (spanned : IsSpanned K u r) (zero : turn_at (low_end K u) (high_end K u) r ≡ pos 0) where
  abbrev pub low : Point
  low = low_end K u

  abbrev pub high : Point
  high = high_end K u

  ends : AreEndsOf K u low high
  ends = ends_of K u (steep.ends s u is)

  near_end : (v : Point) → (v ≡ u.a) ⊎ (v ≡ u.b) → IsNearTo K r v
  near_end v = ⊎_elim (λ e. subst (IsNearTo K r) (sym e) (steep.first s u is)) (λ e. subst (IsNearTo K r) (sym e) (steep.last s u is))

  near_low : IsNearTo K r low
  near_low = let e = ends in near_end low (⊎_elim (λ k. inl k.0) (λ k. inr k.0) e.are)

  near_high : IsNearTo K r high
  near_high = let e = ends in near_end high (⊎_elim (λ k. inr k.1) (λ k. inl k.1) e.are)

  from : (r.d *ℤ height K low) <ℤ height_of K r
  from = spanned.from

  to : height_of K r <ℤ (r.d *ℤ height K high)
  to = spanned.to

  none : turn_at low high r ≡ pos 0
  none = zero

  -- the higher end isn't south of the lower one
  rising : low.y ≤ℤ high.y
  rising = by_lt_z high.y low.y (λ lt. absurd (down lt)) (λ k. k)
    where
      down : high.y <ℤ low.y → ⊥
      down lt =
          let e = ends in
          ⊎_elim
          (λ k. bad low high k.0 k.1 lt (steep.ends s u is) e.rising)
          (λ k. bad' low high k.0 k.1 lt (steep.ends s u is) e.rising)
          e.are
        where
          bad : (a b : Point) → a ≡ u.a → b ≡ u.b → b.y <ℤ a.y → AreNear K u.a u.b → height K a <ℤ height K b → ⊥
          bad a b e f lt near up =
              let h : height K u.b <ℤ height K u.a = higher K u.b u.a (record { west = near.east; east = near.west }) (subst (λ z. z.y <ℤ u.a.y) f (subst (λ z. b.y <ℤ z.y) e lt)) in
              let one : height K a ≡ height K u.a = ap (height K) e in
              let two : height K b ≡ height K u.b = ap (height K) f in
              omega (arith, ints, h, one, two, up)

          bad' : (a b : Point) → a ≡ u.b → b ≡ u.a → b.y <ℤ a.y → AreNear K u.a u.b → height K a <ℤ height K b → ⊥
          bad' a b e f lt near up =
              let h : height K u.a <ℤ height K u.b = higher K u.a u.b near (subst (λ z. z.y <ℤ u.b.y) f (subst (λ z. b.y <ℤ z.y) e lt)) in
              let one : height K a ≡ height K u.b = ap (height K) e in
              let two : height K b ≡ height K u.a = ap (height K) f in
              omega (arith, ints, h, one, two, up)

  -- an end of an upward pair is the lower one, of a segment that isn't level
  pub east_low : (q : Rational) → IsEast u q → IsEastUp low high q
  east_low q =
      let e = ends in let r' = rising in
      ⊎_elim
      (λ k. ⊎_elim (λ l. subst (λ z. IsEastUp z high q) (sym l.0) (subst (λ z. IsEastUp u.a z q) (sym l.1) k))
      (λ l. absurd (not_up u.a u.b q k.low k.high (subst (λ z. z.y ≤ℤ u.a.y) l.0 (subst (λ z. low.y ≤ℤ z.y) l.1 r')))) e.are)
      (λ k. ⊎_elim (λ l. absurd (not_up u.b u.a q k.low k.high (subst (λ z. z.y ≤ℤ u.b.y) l.0 (subst (λ z. low.y ≤ℤ z.y) l.1 r'))))
      (λ l. subst (λ z. IsEastUp z high q) (sym l.0) (subst (λ z. IsEastUp u.b z q) (sym l.1) k)) e.are)
    where
      not_up : (a b : Point) (q : Rational) → (q.d *ℤ a.y) ≤ℤ q.y → q.y <ℤ (q.d *ℤ b.y) → b.y ≤ℤ a.y → ⊥
      not_up a b q l h le = let d : pos 0 <ℤ q.d = q.above_zero in let back : (q.d *ℤ b.y) ≤ℤ (q.d *ℤ a.y) = mono q.d b.y a.y (omega (arith, ints, d)) le in omega (arith, ints, l, h, back)

  pub west_low : (q : Rational) → IsWest u q → IsWestUp low high q
  west_low q =
      let e = ends in let r' = rising in
      ⊎_elim
      (λ k. ⊎_elim (λ l. subst (λ z. IsWestUp z high q) (sym l.0) (subst (λ z. IsWestUp u.a z q) (sym l.1) k))
      (λ l. absurd (not_up u.a u.b q k.low k.high (subst (λ z. z.y ≤ℤ u.a.y) l.0 (subst (λ z. low.y ≤ℤ z.y) l.1 r')))) e.are)
      (λ k. ⊎_elim (λ l. absurd (not_up u.b u.a q k.low k.high (subst (λ z. z.y ≤ℤ u.b.y) l.0 (subst (λ z. low.y ≤ℤ z.y) l.1 r'))))
      (λ l. subst (λ z. IsWestUp z high q) (sym l.0) (subst (λ z. IsWestUp u.b z q) (sym l.1) k)) e.are)
    where
      not_up : (a b : Point) (q : Rational) → (q.d *ℤ a.y) <ℤ q.y → q.y ≤ℤ (q.d *ℤ b.y) → b.y ≤ℤ a.y → ⊥
      not_up a b q l h le = let d : pos 0 <ℤ q.d = q.above_zero in let back : (q.d *ℤ b.y) ≤ℤ (q.d *ℤ a.y) = mono q.d b.y a.y (omega (arith, ints, d)) le in omega (arith, ints, l, h, back)

  low_east : (q : Rational) → IsEastUp low high q → IsEast u q
  low_east q k =
      let e = ends in
      ⊎_elim (λ l. inl (subst (λ z. IsEastUp z u.b q) l.0 (subst (λ z. IsEastUp low z q) l.1 k)))
      (λ l. inr (subst (λ z. IsEastUp z u.a q) l.0 (subst (λ z. IsEastUp low z q) l.1 k))) e.are

  low_west : (q : Rational) → IsWestUp low high q → IsWest u q
  low_west q k =
      let e = ends in
      ⊎_elim (λ l. inl (subst (λ z. IsWestUp z u.b q) l.0 (subst (λ z. IsWestUp low z q) l.1 k)))
      (λ l. inr (subst (λ z. IsWestUp z u.a q) l.0 (subst (λ z. IsWestUp low z q) l.1 k))) e.are

  -- by a number
  same_east : (w : Segment) (q : Rational) → IsNumbered chains s w → IsEast w q → IsEast u q
  same_east w q is' h =
      let e : HaveSameEnds w u = one_segment chains s w u is' is in
      ⊎_elim (λ k. inl (subst (λ z. IsEastUp z u.b q) e.first (subst (λ z. IsEastUp w.a z q) e.last k)))
      (λ k. inr (subst (λ z. IsEastUp z u.a q) e.last (subst (λ z. IsEastUp w.b z q) e.first k))) h

  same_west : (w : Segment) (q : Rational) → IsNumbered chains s w → IsWest w q → IsWest u q
  same_west w q is' h =
      let e : HaveSameEnds w u = one_segment chains s w u is' is in
      ⊎_elim (λ k. inl (subst (λ z. IsWestUp z u.b q) e.first (subst (λ z. IsWestUp w.a z q) e.last k)))
      (λ k. inr (subst (λ z. IsWestUp z u.a q) e.last (subst (λ z. IsWestUp w.b z q) e.first k))) h

  -- ---- near the place

  module _ (q : Rational) (near : IsNearer (nearness r n) r q) where
    -- the latitude of q is between those of the ends, if they differ
    between : low.y <ℤ high.y → ((q.d *ℤ low.y) <ℤ q.y) × (q.y <ℤ (q.d *ℤ high.y))
    between up =
        let at = latitude_by_height K r low high near_low near_high none from to up in (
          south_stays r q (widest_of n) (wide_enough n) near low.y at.0,
          north_stays r q (widest_of n) (wide_enough n) near high.y at.1,
        )

    -- what is told of q where the ends have one latitude
    level_low : high.y ≤ℤ low.y → ((r.d *ℤ low.y) ≤ℤ r.y) × (r.y ≤ℤ (r.d *ℤ low.y))
    level_low le =
        let up = rising in
        let same_y : high.y ≡ low.y = omega (arith, ints, le, up) in
        let f = from in let t = to in
        let l : (r.d *ℤ low.y) ≤ℤ r.y = not_north K r low near_low (omega (arith, ints, f)) in
        let h : r.y ≤ℤ (r.d *ℤ high.y) = not_south K r high near_high (omega (arith, ints, t)) in
        (l, subst (λ z. r.y ≤ℤ (r.d *ℤ z)) same_y h)

    -- the higher end of a level segment is the western one
    westward : high.y ≤ℤ low.y → (high.x -ℤ low.x) <ℤ pos 0
    westward le =
        let up = rising in
        let same_y : high.y ≡ low.y = omega (arith, ints, le, up) in
        let e : K *ℤ high.y ≡ K *ℤ low.y = ap (λ z. K *ℤ z) same_y in
        let h = rise_of in
        omega (arith, ints, e, h)
      where
        rise_of : height K low <ℤ height K high
        rise_of = let e = ends in e.rising

    level_north : high.y ≤ℤ low.y → pos 0 ≤ℤ step_y r q → turn_at low high q ≤ℤ pos 0
    level_north le north =
        let up = rising in
        let same_y : high.y ≡ low.y = omega (arith, ints, le, up) in
        let above = not_north_stays r q (widest_of n) (wide_enough n) near north low.y (level_low le).0 in
        let w = westward le in
        let p = product_at_least (pos 0 -ℤ (high.x -ℤ low.x)) (q.y -ℤ q.d *ℤ low.y) (omega (arith, ints, w)) (omega (arith, ints, above)) in
        let e = negated (high.x -ℤ low.x) (q.y -ℤ q.d *ℤ low.y) in
        let f = level_turn low high q same_y in
        omega (arith, ints, p, e, f)
      where
        negated : (v w : ℤ) → (pos 0 -ℤ v) *ℤ w ≡ pos 0 -ℤ v *ℤ w
        negated v w = same ((num (pos 0) ⊖ num v) ⊗ num w) (num (pos 0) ⊖ num v ⊗ num w) (omega arith)

    level_south : high.y ≤ℤ low.y → step_y r q <ℤ pos 0 → pos 0 ≤ℤ turn_at low high q
    level_south le south =
        let up = rising in
        let same_y : high.y ≡ low.y = omega (arith, ints, le, up) in
        let below = not_south_stays r q (widest_of n) (wide_enough n) near south low.y (level_low le).1 in
        let w = westward le in
        let p = product_at_least (pos 0 -ℤ (high.x -ℤ low.x)) (pos 0 -ℤ (q.y -ℤ q.d *ℤ low.y)) (omega (arith, ints, w)) (omega (arith, ints, below)) in
        let e = both (high.x -ℤ low.x) (q.y -ℤ q.d *ℤ low.y) in
        let f = level_turn low high q same_y in
        omega (arith, ints, p, e, f)
      where
        both : (v w : ℤ) → (pos 0 -ℤ v) *ℤ (pos 0 -ℤ w) ≡ v *ℤ w
        both v w = same ((num (pos 0) ⊖ num v) ⊗ (num (pos 0) ⊖ num w)) (num v ⊗ num w) (omega arith)

    -- ---- what the rays of q pass

    pub east_of_west_side : pos 0 ≤ℤ step_y r q → pos 0 <ℤ turn_at low high q → IsEastHit chains q s
    east_of_west_side north t = record {
      segment = u;
      is = is;
      east = low_east q (by_lt_z low.y high.y
          (λ up. let at = between up in let l = at.0 in record { low = omega (arith, ints, l); high = at.1; turn = t })
          (λ le. absurd (let h = level_north le north in omega (arith, ints, h, t))));
    }

    pub no_east_of_east_side : turn_at low high q <ℤ pos 0 → ¬ IsEastHit chains q s
    no_east_of_east_side t h = let k = (east_low q (same_east h.segment q h.is h.east)).turn in omega (arith, ints, k, t)

    pub west_of_east_side : step_y r q <ℤ pos 0 → turn_at low high q <ℤ pos 0 → IsWestHit chains q s
    west_of_east_side south t = record {
      segment = u;
      is = is;
      west = low_west q (by_lt_z low.y high.y
          (λ up. let at = between up in let h = at.1 in record { low = at.0; high = omega (arith, ints, h); turn = t })
          (λ le. absurd (let h = level_south le south in omega (arith, ints, h, t))));
    }

    pub no_west_of_west_side : pos 0 <ℤ turn_at low high q → ¬ IsWestHit chains q s
    no_west_of_west_side t h = let k = (west_low q (same_west h.segment q h.is h.west)).turn in omega (arith, ints, k, t)
