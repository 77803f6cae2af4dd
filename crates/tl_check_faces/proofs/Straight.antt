-- What lies at the places of a straight line that meets no chain is one side.
use Rattle.std.proofs.Common.{◌≡◌, ◌⊎◌, inl, inr, ⊎_elim, ℕ, zero, suc, ◌+◌, ℤ, pos, ◌+ℤ◌, ◌-ℤ◌, ◌*ℤ◌, ◌<ℤ◌, ◌≤ℤ◌, refl, ◌∙◌, arith}
use Rattle.std.proofs.Common.{Bool, false, List, length, map}
use Rattle.std.proofs.lemmas.Int.{ints, by_lt_z}
use Rattle.tl_geom.specs.declared.point.Point.{Point}
use Rattle.tl_geom.specs.declared.rational.Rational.{Rational}
use Rattle.tl_geom.specs.declared.segment.Segment.{Segment}
use Rattle.tl_geom.specs.Plane.{IsOn}
use Rattle.tl_geom.proofs.Polynomials.{num, ◌⊕◌, ◌⊖◌, ◌⊗◌, same}
use Rattle.tl_geom.proofs.Signs.{mono, mono_lt, cancel_lt, sign}
use Rattle.tl_map_county.specs.declared.sides.Side.{Side}
use Rattle.tl_map_county.specs.declared.sides.Side.TheVariants.{Outside, Polygon}
use Rattle.tl_map_county.specs.TheMap.{MapChain}
use Rattle.tl_map_county.specs.Segments.{segments_before}
use Rattle.tl_tree_index.specs.Hits.{AreHits}
use Rattle.tl_check_inside.specs.Inside.{flanks_at, balance, is_polygon, IsCountAt}
use Rattle.tl_check_planar.specs.ByHeight.Heights.{AreNear, turn_at}
use Rattle.tl_check_planar.specs.ByHeight.Neighbours.{IsNumbered}
use Rattle.tl_check_planar.proofs.ByHeight.Rising.{higher, near_back}
use Rattle.tl_check_planar.proofs.ByHeight.Lying.{lies_on}
use Rattle.tl_check_faces.specs.Facing.{IsOff}
use Rattle.tl_check_faces.specs.Truth.{LiesAt}
use Rattle.tl_check_faces.proofs.Means.{mean, mean_turn, mean_north, mean_south, mean_past, mean_before}
use Rattle.tl_check_faces.proofs.Crossing.{IsEastUp, IsWestUp}
use Rattle.tl_check_faces.proofs.Steep.{IsNearTo, height_by_latitude}
use Rattle.tl_check_faces.proofs.Bounds.{IsSteep, IsFar, far, some_steepness}
use Rattle.tl_check_faces.proofs.Along.{AreFaced}
use Rattle.tl_check_faces.proofs.Whole.{one_count}
use Rattle.tl_check_faces.proofs.OnePolygon.{some_west, west_counted, IsEastHit, IsWestHit, east_hit, crossed_hit}

-- ---- places whose latitudes are alike

-- the same whole latitudes are at or below those of p and q
pub record HaveOneFloor (p q : Rational) : Type 0 where
  pub to : (v : ℤ) → (p.d *ℤ v) ≤ℤ p.y → (q.d *ℤ v) ≤ℤ q.y
  pub back : (v : ℤ) → (q.d *ℤ v) ≤ℤ q.y → (p.d *ℤ v) ≤ℤ p.y

-- the same whole latitudes are below them
pub record HaveOneCeiling (p q : Rational) : Type 0 where
  pub to : (v : ℤ) → (p.d *ℤ v) <ℤ p.y → (q.d *ℤ v) <ℤ q.y
  pub back : (v : ℤ) → (q.d *ℤ v) <ℤ q.y → (p.d *ℤ v) <ℤ p.y

rises : (q : Rational) (a b : ℤ) → (q.d *ℤ a) ≤ℤ q.y → q.y ≤ℤ (q.d *ℤ b) → ((q.d *ℤ a) <ℤ q.y) ⊎ (q.y <ℤ (q.d *ℤ b)) → a <ℤ b
rises q a b low high strict =
    let d : pos 0 <ℤ q.d = q.above_zero in
    cancel_lt q.d a b (omega (arith, ints, d)) (⊎_elim (λ h. omega (arith, ints, h, high)) (λ h. omega (arith, ints, h, low)) strict)

-- where there is no turn to a place and its latitude is between those of a segment's ends, it lies on the segment
on_by_latitude : (K : ℤ) (r : Rational) (u : Segment) (a b : Point) → ((a ≡ u.a) × (b ≡ u.b)) ⊎ ((a ≡ u.b) × (b ≡ u.a)) →
    AreNear K a b → IsNearTo K r a → IsNearTo K r b →
    a.y <ℤ b.y → (r.d *ℤ a.y) ≤ℤ r.y → r.y ≤ℤ (r.d *ℤ b.y) → turn_at a b r ≡ pos 0 → IsOn u r
on_by_latitude K r u a b are near near_a near_b up low high none =
    let heights = height_by_latitude K r a b near_a near_b none low high up in
    lies_on K u a b (record { are = are; rising = higher K a b near up }) r none heights.0 heights.1

-- places on no chain, and with each two of them all their means
module _ (chains : List MapChain) (P : Rational → Type 0) (clear : (r : Rational) → P r → IsOff chains r)
    (means : (m n : ℤ) (some_m : pos 0 <ℤ m) (some_n : pos 0 <ℤ n) (p q : Rational) → P p → P q → P (mean m n some_m some_n p q)) where
  no_segment : (s : ℕ) (w : Segment) → IsNumbered chains s w → (r : Rational) → P r → ¬ IsOn w r
  no_segment s w is r at on = clear r at is.c is.joins.chain is.joins.is (is.k, record { segment = w; from = is.joins.from; to = is.joins.to; on = on })

  -- ---- none changes its side of a segment

  -- a and b are the ends of the segment with this number, and b is north of a
  record AreEnds (s : ℕ) (w : Segment) (a b : Point) : Type 0 where
    is : IsNumbered chains s w
    are : ((a ≡ w.a) × (b ≡ w.b)) ⊎ ((a ≡ w.b) × (b ≡ w.a))
    near : (r : Rational) → (K : ℤ) × IsSteep K chains r × AreNear K a b × IsNearTo K r a × IsNearTo K r b

  first_ends : (s : ℕ) (w : Segment) → IsNumbered chains s w → AreEnds s w w.a w.b
  first_ends s w is = record {
    is = is;
    are = inl ((λ i. w.a), λ i. w.b);
    near = λ r. let k : (K : ℤ) × IsSteep K chains r = some_steepness chains r in (k.0, k.1, k.1.ends s w is, k.1.first s w is, k.1.last s w is);
  }

  last_ends : (s : ℕ) (w : Segment) → IsNumbered chains s w → AreEnds s w w.b w.a
  last_ends s w is = record {
    is = is;
    are = inr ((λ i. w.b), λ i. w.a);
    near = λ r.
        let k : (K : ℤ) × IsSteep K chains r = some_steepness chains r in
        (k.0, k.1, near_back k.0 w.a w.b (k.1.ends s w is), k.1.last s w is, k.1.first s w is);
  }

  -- the latitude of a place is between those of the ends
  record IsBeside (a b : Point) (r : Rational) : Type 0 where
    low : (r.d *ℤ a.y) ≤ℤ r.y
    high : r.y ≤ℤ (r.d *ℤ b.y)

  module _ (s : ℕ) (w : Segment) (a b : Point) (ends : AreEnds s w a b) (up : a.y <ℤ b.y) where
    some_turn : (r : Rational) → P r → IsBeside a b r → ¬ (turn_at a b r ≡ pos 0)
    some_turn r at beside none =
        let k = ends.near r in
        no_segment s w ends.is r at (on_by_latitude k.0 r w a b ends.are k.2 k.3 k.4 up beside.low beside.high none)

    no_change : (p q : Rational) → P p → P q → IsBeside a b p → IsBeside a b q → pos 0 <ℤ turn_at a b p → turn_at a b q <ℤ pos 0 → ⊥
    no_change p q at at' beside beside' more less =
        some_turn (mean m n some_m more p q) (means m n some_m more p q at at')
        (record { low = mean_north m n some_m more p q a.y beside.low beside'.low; high = mean_south m n some_m more p q b.y beside.high beside'.high })
        (mean_turn (b.x -ℤ a.x) (b.y -ℤ a.y) a.x a.y m n p.x p.y p.d q.x q.y q.d ∙ none n (turn_at a b q))
      where
        m : ℤ
        m = pos 0 -ℤ turn_at a b q

        n : ℤ
        n = turn_at a b p

        some_m : pos 0 <ℤ m
        some_m = omega (arith, ints, less)

        none : (v z : ℤ) → (pos 0 -ℤ z) *ℤ v +ℤ v *ℤ z ≡ pos 0
        none v z = same ((num (pos 0) ⊖ num z) ⊗ num v ⊕ num v ⊗ num z) (num (pos 0)) (omega arith)

    more_stays : (p q : Rational) → P p → P q → IsBeside a b p → IsBeside a b q → pos 0 <ℤ turn_at a b p → pos 0 <ℤ turn_at a b q
    more_stays p q at at' beside beside' more =
        ⊎_elim (λ less. absurd (no_change p q at at' beside beside' more less))
        (⊎_elim (λ zero. absurd (some_turn q at' beside' zero)) (λ h. h)) (sign (turn_at a b q))

    less_stays : (p q : Rational) → P p → P q → IsBeside a b p → IsBeside a b q → turn_at a b p <ℤ pos 0 → turn_at a b q <ℤ pos 0
    less_stays p q at at' beside beside' less =
        ⊎_elim (λ h. h)
        (⊎_elim (λ zero. absurd (some_turn q at' beside' zero)) (λ more. absurd (no_change q p at' at beside' beside more less))) (sign (turn_at a b q))

  -- ---- so the rays pass the same

  module _ (p q : Rational) (at : P p) (at' : P q) where
    east_up : HaveOneFloor p q → (s : ℕ) (w : Segment) (a b : Point) → AreEnds s w a b → IsEastUp a b p → IsEastUp a b q
    east_up one s w a b ends k =
        let low = k.low in let high = k.high in
        let low' = one.to a.y low in
        let high' : q.y <ℤ (q.d *ℤ b.y) = by_lt_z q.y (q.d *ℤ b.y) (λ lt. lt) (λ ge. absurd (let h = one.back b.y ge in omega (arith, ints, h, high))) in
        record {
          low = low';
          high = high';
          turn = more_stays s w a b ends (rises p a.y b.y low (omega (arith, ints, high)) (inr high)) p q at at'
              (record { low = low; high = omega (arith, ints, high) }) (record { low = low'; high = omega (arith, ints, high') }) k.turn;
        }

    west_up : HaveOneCeiling p q → (s : ℕ) (w : Segment) (a b : Point) → AreEnds s w a b → IsWestUp a b p → IsWestUp a b q
    west_up one s w a b ends k =
        let low = k.low in let high = k.high in
        let low' = one.to a.y low in
        let high' : q.y ≤ℤ (q.d *ℤ b.y) = by_lt_z (q.d *ℤ b.y) q.y (λ lt. absurd (let h = one.back b.y lt in omega (arith, ints, h, high))) (λ le. le) in
        record {
          low = low';
          high = high';
          turn = less_stays s w a b ends (rises p a.y b.y (omega (arith, ints, low)) high (inl low)) p q at at'
              (record { low = omega (arith, ints, low); high = high }) (record { low = omega (arith, ints, low'); high = high' }) k.turn;
        }

    east_passed : HaveOneFloor p q → (s : ℕ) → IsEastHit chains p s → IsEastHit chains q s
    east_passed one s h = record {
      segment = h.segment;
      is = h.is;
      east = ⊎_elim (λ k. inl (east_up one s h.segment h.segment.a h.segment.b (first_ends s h.segment h.is) k))
          (λ k. inr (east_up one s h.segment h.segment.b h.segment.a (last_ends s h.segment h.is) k)) h.east;
    }

    west_passed : HaveOneCeiling p q → (s : ℕ) → IsWestHit chains p s → IsWestHit chains q s
    west_passed one s h = record {
      segment = h.segment;
      is = h.is;
      west = ⊎_elim (λ k. inl (west_up one s h.segment h.segment.a h.segment.b (first_ends s h.segment h.is) k))
          (λ k. inr (west_up one s h.segment h.segment.b h.segment.a (last_ends s h.segment h.is) k)) h.west;
    }

  -- ---- and what lies there is one side

  -- what lies at p lies at q
  abbrev pub IsAlike : (p q : Rational) → Type 0
  IsAlike p q = (side : Side) → LiesAt chains p side → LiesAt chains q side

  alike_by : (p q : Rational) → ((S : Side → Bool) (n : ℤ) → S Outside ≡ false → IsCountAt chains p S n → IsCountAt chains q S n) → IsAlike p q
  alike_by p q same_counts Outside lies = λ i. same_counts (is_polygon i) (pos 0) refl (lies i)
  alike_by p q same_counts (Polygon i) lies = (
    same_counts (is_polygon i) (pos 1) refl lies.0,
    λ other ne. same_counts (is_polygon other) (pos 0) refl (lies.1 other ne),
  )

  by_floor : (p q : Rational) → P p → P q → HaveOneFloor p q → IsAlike p q
  by_floor p q at at' one = alike_by p q (λ S n none k. record {
    crossed = k.crossed;
    are = record {
      once = λ i lt h. k.are.once i lt (crossed_hit chains p i (east_passed q p at' at (record { to = one.back; back = one.to }) i (east_hit chains q i h)));
      others = λ i no. k.are.others i (λ h. no (crossed_hit chains q i (east_passed p q at at' one i (east_hit chains p i h))));
      known = k.are.known;
    };
    counted = k.counted;
  })

  module _ (faced : AreFaced chains) where
    by_ceiling : (p q : Rational) → P p → P q → HaveOneCeiling p q → IsAlike p q
    by_ceiling p q at at' one = alike_by p q (λ S n none k.
        let hits : (list : List ℕ) × AreHits (segments_before chains (length chains)) (IsWestHit chains p) list = some_west chains faced p (clear p at) in
        let own : IsCountAt chains p S (pos 0 -ℤ balance S (map (flanks_at chains) hits.0)) =
        west_counted chains faced p (clear p at) S (pos 0 -ℤ balance S (map (flanks_at chains) hits.0)) hits.0 none hits.1 refl in
        west_counted chains faced q (clear q at') S n hits.0 none
        (record {
          once = λ i lt h. hits.1.once i lt (west_passed q p at' at (record { to = one.back; back = one.to }) i h);
          others = λ i no. hits.1.others i (λ h. no (west_passed p q at at' one i h));
          known = hits.1.known;
        })
        (one_count chains p S n (pos 0 -ℤ balance S (map (flanks_at chains) hits.0)) k own))

    -- ---- between a whole latitude and the next

    -- the latitude of a place is k or more, k or less, below k, or above it
    abbrev IsFrom : ℤ → Rational → Type 0
    IsFrom k r = (r.d *ℤ k) ≤ℤ r.y

    abbrev IsUpTo : ℤ → Rational → Type 0
    IsUpTo k r = r.y ≤ℤ (r.d *ℤ k)

    abbrev IsUnder : ℤ → Rational → Type 0
    IsUnder k r = r.y <ℤ (r.d *ℤ k)

    abbrev IsOver : ℤ → Rational → Type 0
    IsOver k r = (r.d *ℤ k) <ℤ r.y

    alike_in_floor : (k : ℤ) (p q : Rational) → P p → P q → IsFrom k p → IsUnder (k +ℤ pos 1) p → IsFrom k q → IsUnder (k +ℤ pos 1) q → IsAlike p q
    alike_in_floor k p q at at' low high low' high' =
        by_floor p q at at' (record { to = λ v h. passed p q low' high v h; back = λ v h. passed q p low high' v h })
      where
        passed : (p q : Rational) → IsFrom k q → IsUnder (k +ℤ pos 1) p → (v : ℤ) → (p.d *ℤ v) ≤ℤ p.y → (q.d *ℤ v) ≤ℤ q.y
        passed p q low high v h =
            let d : pos 0 <ℤ p.d = p.above_zero in let e : pos 0 <ℤ q.d = q.above_zero in
            let under : v <ℤ (k +ℤ pos 1) = cancel_lt p.d v (k +ℤ pos 1) (omega (arith, ints, d)) (omega (arith, ints, h, high)) in
            let less : (q.d *ℤ v) ≤ℤ (q.d *ℤ k) = mono q.d v k (omega (arith, ints, e)) (omega (arith, ints, under)) in
            omega (arith, ints, less, low)

    alike_in_ceiling : (k : ℤ) (p q : Rational) → P p → P q → IsOver k p → IsUpTo (k +ℤ pos 1) p → IsOver k q → IsUpTo (k +ℤ pos 1) q → IsAlike p q
    alike_in_ceiling k p q at at' low high low' high' =
        by_ceiling p q at at' (record { to = λ v h. passed p q low' high v h; back = λ v h. passed q p low high' v h })
      where
        passed : (p q : Rational) → IsOver k q → IsUpTo (k +ℤ pos 1) p → (v : ℤ) → (p.d *ℤ v) <ℤ p.y → (q.d *ℤ v) <ℤ q.y
        passed p q low high v h =
            let d : pos 0 <ℤ p.d = p.above_zero in let e : pos 0 <ℤ q.d = q.above_zero in
            let under : v <ℤ (k +ℤ pos 1) = cancel_lt p.d v (k +ℤ pos 1) (omega (arith, ints, d)) (omega (arith, ints, h, high)) in
            let less : (q.d *ℤ v) ≤ℤ (q.d *ℤ k) = mono q.d v k (omega (arith, ints, e)) (omega (arith, ints, under)) in
            omega (arith, ints, less, low)

    -- by a place midway
    through : (k : ℤ) (p q : Rational) → P p → P q → IsFrom k p → IsUnder (k +ℤ pos 1) p → IsOver k q → IsUpTo (k +ℤ pos 1) q → IsAlike p q × IsAlike q p
    through k p q at at' low high low' high' =
        let one : pos 0 <ℤ pos 1 = omega (arith, ints) in
        let m : Rational = mean (pos 1) (pos 1) one one q p in
        let there : P m = means (pos 1) (pos 1) one one q p at' at in
        let past : IsOver k m = mean_past (pos 1) (pos 1) one one q p k low' low in
        let before : IsUnder (k +ℤ pos 1) m = mean_before (pos 1) (pos 1) one one q p (k +ℤ pos 1) high' high in
        let from : IsFrom k m = less_or_more k m past in
        let to : IsUpTo (k +ℤ pos 1) m = up_to k m before in (
          λ side h. alike_in_ceiling k m q there at' past to low' high' side (alike_in_floor k p m at there low high from before side h),
          λ side h. alike_in_floor k m p there at from before low high side (alike_in_ceiling k q m at' there low' high' past to side h),
        )
      where
        less_or_more : (k : ℤ) (r : Rational) → IsOver k r → IsFrom k r
        less_or_more k r h = omega (arith, ints, h)

        up_to : (k : ℤ) (r : Rational) → IsUnder (k +ℤ pos 1) r → IsUpTo (k +ℤ pos 1) r
        up_to k r h = omega (arith, ints, h)

    next : (k : ℤ) (r : Rational) → (r.d *ℤ k) <ℤ (r.d *ℤ (k +ℤ pos 1))
    next k r = mono_lt r.d k (k +ℤ pos 1) r.above_zero (omega (arith, ints))

    alike_near : (k : ℤ) (p q : Rational) → P p → P q → IsFrom k p → IsFrom k q → IsUpTo (k +ℤ pos 1) p → IsUpTo (k +ℤ pos 1) q → IsAlike p q
    alike_near k p q at at' low low' high high' =
        let n = next k p in let n' = next k q in
        by_lt_z p.y (p.d *ℤ (k +ℤ pos 1))
        (λ under. by_lt_z (q.d *ℤ k) q.y (λ over. (through k p q at at' low under over high').0)
        (λ le. alike_in_floor k p q at at' low under low' (omega (arith, ints, le, n'))))
        (λ ge. by_lt_z q.y (q.d *ℤ (k +ℤ pos 1)) (λ under. (through k q p at' at low' under (omega (arith, ints, ge, n)) high).1)
        (λ ge'. alike_in_ceiling k p q at at' (omega (arith, ints, ge, n)) high (omega (arith, ints, ge', n')) high'))

    -- ---- and between any two latitudes, by the whole ones between them

    -- a place of a latitude between theirs
    record IsCut (v : ℤ) (r : Rational) : Type 0 where
      there : P r
      level : r.y ≡ r.d *ℤ v

    cut : (v : ℤ) (p q : Rational) → P p → P q → IsUnder v p → IsOver v q → (r : Rational) × IsCut v r
    cut v p q at at' under over = (
      mean m n some_m some_n p q,
      record { there = means m n some_m some_n p q at at'; level = weighed p.y p.d q.y q.d },
    )
      where
        m : ℤ
        m = q.y -ℤ q.d *ℤ v

        n : ℤ
        n = p.d *ℤ v -ℤ p.y

        some_m : pos 0 <ℤ m
        some_m = omega (arith, ints, over)

        some_n : pos 0 <ℤ n
        some_n = omega (arith, ints, under)

        weighed : (y d Y D : ℤ) → (Y -ℤ D *ℤ v) *ℤ y +ℤ (d *ℤ v -ℤ y) *ℤ Y ≡ ((Y -ℤ D *ℤ v) *ℤ d +ℤ (d *ℤ v -ℤ y) *ℤ D) *ℤ v
        weighed y d Y D =
            let M = num Y ⊖ num D ⊗ num v in let N = num d ⊗ num v ⊖ num y in
            same (M ⊗ num y ⊕ N ⊗ num Y) ((M ⊗ num d ⊕ N ⊗ num D) ⊗ num v) (omega arith)

    alike_within : (n : ℕ) (k top : ℤ) → top ≤ℤ (k +ℤ pos 1 +ℤ pos n) → (p q : Rational) → P p → P q → IsFrom k p → IsFrom k q →
        IsUpTo top p → IsUpTo top q → IsAlike p q
    alike_within zero k top le p q at at' low low' high high' = alike_near k p q at at' low low' (lower p high) (lower q high')
      where
        lower : (r : Rational) → IsUpTo top r → IsUpTo (k +ℤ pos 1) r
        lower r h =
            let d : pos 0 <ℤ r.d = r.above_zero in
            let more : (r.d *ℤ top) ≤ℤ (r.d *ℤ (k +ℤ pos 1)) = mono r.d top (k +ℤ pos 1) (omega (arith, ints, d)) (omega (arith, ints, le)) in
            omega (arith, ints, h, more)
    alike_within (suc n) k top le p q at at' low low' high high' =
        let further : (p q : Rational) → P p → P q → IsFrom v p → IsFrom v q → IsUpTo top p → IsUpTo top q → IsAlike p q =
        alike_within n v top (omega (arith, ints, le)) in
        by_lt_z p.y (p.d *ℤ v)
        (λ under. by_lt_z (q.d *ℤ v) q.y
        (λ over.
        let r : (r : Rational) × IsCut v r = cut v p q at at' under over in
        λ side h. further r.0 q r.1.there at' (from r.0 r.1) (omega (arith, ints, over)) (below r.0 r.1 q over high') high' side
        (alike_near k p r.0 at r.1.there low (start r.0 r.1) (omega (arith, ints, under)) (to r.0 r.1) side h))
        (λ le'. alike_near k p q at at' low low' (omega (arith, ints, under)) le'))
        (λ ge. by_lt_z q.y (q.d *ℤ v)
        (λ under. by_lt_z (p.d *ℤ v) p.y
        (λ over.
        let r : (r : Rational) × IsCut v r = cut v q p at' at under over in
        λ side h. alike_near k r.0 q r.1.there at' (start r.0 r.1) low' (to r.0 r.1) (omega (arith, ints, under)) side
        (further p r.0 at r.1.there ge (from r.0 r.1) high (below r.0 r.1 p over high) side h))
        (λ le'. alike_near k p q at at' low low' le' (omega (arith, ints, under))))
        (λ ge'. further p q at at' ge ge' high high'))
      where
        v : ℤ
        v = k +ℤ pos 1

        from : (r : Rational) → IsCut v r → IsFrom v r
        from r c = let e = c.level in omega (arith, ints, e)

        to : (r : Rational) → IsCut v r → IsUpTo v r
        to r c = let e = c.level in omega (arith, ints, e)

        start : (r : Rational) → IsCut v r → IsFrom k r
        start r c = let e = c.level in let n = next k r in omega (arith, ints, e, n)

        -- what is over v isn't over the top, and so the top isn't under v
        below : (r : Rational) → IsCut v r → (q : Rational) → IsOver v q → IsUpTo top q → IsUpTo top r
        below r c q over high =
            let e = c.level in let d : pos 0 <ℤ q.d = q.above_zero in let d' : pos 0 <ℤ r.d = r.above_zero in
            let less : v <ℤ top = cancel_lt q.d v top (omega (arith, ints, d)) (omega (arith, ints, over, high)) in
            let more : (r.d *ℤ v) ≤ℤ (r.d *ℤ top) = mono r.d v top (omega (arith, ints, d')) (omega (arith, ints, less)) in
            omega (arith, ints, e, more)

    pub alike : (p q : Rational) → P p → P q → IsAlike p q
    alike p q at at' =
        alike_within (n + n) (pos 0 -ℤ pos n) (pos n) (omega (arith, ints)) p q at at'
        (from p (let h = one.below in omega (arith, ints, h))) (from q (let h = other.below in omega (arith, ints, h)))
        (to p (let h = one.above in omega (arith, ints, h))) (to q (let h = other.above in omega (arith, ints, h)))
      where
        one : IsFar p.y
        one = far p.y

        other : IsFar q.y
        other = far q.y

        n : ℕ
        n = one.n + other.n

        wide : (r : Rational) → pos n ≤ℤ (r.d *ℤ pos n)
        wide r =
            let d : pos 0 <ℤ r.d = r.above_zero in
            let more : (pos n *ℤ pos 1) ≤ℤ (pos n *ℤ r.d) = mono (pos n) (pos 1) r.d (omega (arith, ints)) (omega (arith, ints, d)) in
            let e : pos n *ℤ pos 1 ≡ pos n = same (num (pos n) ⊗ num (pos 1)) (num (pos n)) (omega arith) in
            let f : pos n *ℤ r.d ≡ r.d *ℤ pos n = same (num (pos n) ⊗ num r.d) (num r.d ⊗ num (pos n)) (omega arith) in
            omega (arith, ints, more, e, f)

        from : (r : Rational) → (pos 0 -ℤ pos n) ≤ℤ r.y → IsFrom (pos 0 -ℤ pos n) r
        from r h =
            let w = wide r in
            let e : r.d *ℤ (pos 0 -ℤ pos n) ≡ pos 0 -ℤ r.d *ℤ pos n =
            same (num r.d ⊗ (num (pos 0) ⊖ num (pos n))) (num (pos 0) ⊖ num r.d ⊗ num (pos n)) (omega arith) in
            omega (arith, ints, w, e, h)

        to : (r : Rational) → r.y ≤ℤ pos n → IsUpTo (pos n) r
        to r h = let w = wide r in omega (arith, ints, w, h)
