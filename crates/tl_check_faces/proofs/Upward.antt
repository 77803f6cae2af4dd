-- What a segment adds to the counts at a place, by the ray to the east: where it doesn't touch the straight line between two places, it
-- adds at the one what it adds at the other, but for which of its ends lie between their latitudes, east of that line.
use Rattle.std.proofs.Common.{◌≡◌, inl, inr, ⊎_elim, ℤ, pos, ◌-ℤ◌, ◌*ℤ◌, ◌<ℤ◌, ◌≤ℤ◌, Bool, true, false, not, ◌&&◌, cond, refl, sym, ◌∙◌, arith}
use Rattle.std.specs.Prelude.{int_lt}
use Rattle.std.proofs.lemmas.Bool.{false≢true}
use Rattle.std.proofs.lemmas.Int.{ints, by_lt_z}
use Rattle.tl_geom.specs.declared.point.Point.{Point}
use Rattle.tl_geom.specs.declared.rational.Rational.{Rational}
use Rattle.tl_geom.specs.declared.segment.Segment.{Segment}
use Rattle.tl_geom.specs.Plane.{IsOn, IsBetween}
use Rattle.tl_geom.proofs.Polynomials.{num, ◌⊗◌, same}
use Rattle.tl_geom.proofs.Signs.{cancel_lt}
use Rattle.tl_check_planar.specs.ByHeight.Heights.{turn_at}
use Rattle.tl_check_planar.proofs.ByHeight.Lying.{turned}
use Rattle.tl_check_faces.proofs.CrossingsLemmas.Telescoping.{bit}
use Rattle.tl_check_faces.proofs.CrossingsLemmas.Signed.{adds}
use Rattle.tl_check_faces.specs.Facing.{step_y}
use Rattle.tl_check_faces.proofs.Numbers.{le_lt, lt_le}
use Rattle.tl_check_faces.proofs.Crossing.{IsEastUp}
use Rattle.tl_check_faces.proofs.Touching.{IsApart, apart_turned, line_to, one_side}
use Rattle.tl_check_faces.proofs.Beside.{IsAbove, IsNoHigher, last_east, passed_by_last, first_east, passed_by_first, both_east, both_east_back}
use Rattle.tl_check_faces.proofs.ToFaces.{exchanged}
use Rattle.tl_check_inside.proofs.Sides.{is_lt as int_lt-true, no_lt as int_lt-false}
use Rattle.tl_check_planar.proofs.ByHeight.Rising.{lt_of, le_of}

-- ---- the tests

-- the point is further north than the place
abbrev pub is_north : Rational → Point → Bool
is_north q v = int_lt q.y (q.d *ℤ v.y)

-- the way from a to b goes up past q on the east
abbrev pub goes_up : Rational → (a b : Point) → Bool
goes_up q a b = not (is_north q a) && (is_north q b && int_lt (pos 0) (turn_at a b q))

-- the point is between the latitudes of p and q, east of the line through them
abbrev pub is_beside : (p q : Rational) → Point → Bool
is_beside p q v = is_north p v && (not (is_north q v) && int_lt (line_to p q v) (pos 0))

pub up_of : (q : Rational) (a b : Point) → goes_up q a b ≡ true → IsEastUp a b q
up_of q a b = go (is_north q a) (is_north q b) (int_lt (pos 0) (turn_at a b q)) refl refl refl
  where
    go : (s t u : Bool) → is_north q a ≡ s → is_north q b ≡ t → int_lt (pos 0) (turn_at a b q) ≡ u → not s && (t && u) ≡ true → IsEastUp a b q
    go true t u e f g h = absurd (false≢true h)
    go false false u e f g h = absurd (false≢true h)
    go false true false e f g h = absurd (false≢true h)
    go false true true e f g h = record { low = le_of q.y (q.d *ℤ a.y) e; high = lt_of q.y (q.d *ℤ b.y) f; turn = lt_of (pos 0) (turn_at a b q) g }

pub up_is : (q : Rational) (a b : Point) → IsEastUp a b q → goes_up q a b ≡ true
up_is q a b h = rw (int_lt-false q.y (q.d *ℤ a.y) h.low, int_lt-true q.y (q.d *ℤ b.y) h.high, int_lt-true (pos 0) (turn_at a b q) h.turn) refl

pub up_rises : (q : Rational) (a b : Point) → goes_up q a b ≡ true → a.y <ℤ b.y
up_rises q a b e =
    let h : IsEastUp a b q = up_of q a b e in
    let low = h.low in let high = h.high in let d : pos 0 <ℤ q.d = q.above_zero in
    cancel_lt q.d a.y b.y (omega (arith, ints, d)) (omega (arith, ints, low, high))

-- the other way it adds as much with the other sign
pub adds_turned : (q : Rational) (a b : Point) → adds (goes_up q) a b ≡ pos 0 -ℤ adds (goes_up q) b a
adds_turned q a b = go (goes_up q a b) (goes_up q b a) refl refl
  where
    go : (s t : Bool) → goes_up q a b ≡ s → goes_up q b a ≡ t → adds (goes_up q) a b ≡ pos 0 -ℤ adds (goes_up q) b a
    go true true e f = absurd (let up = up_rises q a b e in let down = up_rises q b a f in omega (arith, ints, up, down))
    go true false e f = rw (e, f) refl
    go false true e f = rw (e, f) refl
    go false false e f = rw (e, f) refl

-- ---- two tests that agree

same_test : (x y z w : ℤ) → (x <ℤ y → z <ℤ w) → (z <ℤ w → x <ℤ y) → int_lt x y ≡ int_lt z w
same_test x y z w to back =
    by_lt_z x y
    (λ h. int_lt-true x y h ∙ sym (int_lt-true z w (to h)))
    (λ h. int_lt-false x y h ∙ sym (int_lt-false z w (by_lt_z z w (λ k. absurd (let less = back k in omega (arith, ints, less, h))) (λ k. k))))

times_one : (z : ℤ) → z *ℤ pos 1 ≡ z
times_one z = same (num z ⊗ num (pos 1)) (num z) (omega arith)

once : (t : Bool) → cond t (pos 1) (pos 0) -ℤ pos 0 ≡ pos (bit t) -ℤ pos 0
once true = refl
once false = refl

once_less : (t : Bool) → pos 0 -ℤ cond t (pos 1) (pos 0) ≡ pos 0 -ℤ pos (bit t)
once_less true = refl
once_less false = refl

-- ---- p isn't north of q

module _ (p q : Rational) (level : (p.y *ℤ q.d) ≤ℤ (q.y *ℤ p.d)) where
  -- what is above q is above p
  above_both : (v : Point) → IsAbove q v → IsAbove p v
  above_both v h =
      let one : pos 0 <ℤ pos 1 = omega (arith, ints) in
      let e = times_one q.y in let f = exchanged q.d v.y in let g = times_one p.y in let i = exchanged p.d v.y in
      let less : (p.y *ℤ pos 1) <ℤ (v.y *ℤ p.d) = le_lt p.y p.d q.y q.d v.y (pos 1) p.above_zero q.above_zero one level (omega (arith, ints, h, e, f)) in
      omega (arith, ints, less, g, i)

  -- where a point is between their latitudes, p is south of q
  some_north : (v : Point) → IsAbove p v → IsNoHigher q v → pos 0 <ℤ step_y p q
  some_north v h k =
      let one : pos 0 <ℤ pos 1 = omega (arith, ints) in
      let e = times_one q.y in let f = exchanged q.d v.y in let g = times_one p.y in let i = exchanged p.d v.y in
      let less : (p.y *ℤ q.d) <ℤ (q.y *ℤ p.d) =
      lt_le p.y p.d v.y (pos 1) q.y q.d p.above_zero one q.above_zero (omega (arith, ints, h, g, i)) (omega (arith, ints, k, e, f)) in
      omega (arith, ints, less)

  module _ (u : Segment) (apart : IsApart p q u) (up : u.a.y ≤ℤ u.b.y) where
    -- what is north of the place is so of the end that is no further south
    stays : (r : Rational) → is_north r u.a ≡ true → is_north r u.b ≡ true
    stays r e =
        let d : pos 0 <ℤ r.d = r.above_zero in
        let low : r.y <ℤ (r.d *ℤ u.a.y) = lt_of r.y (r.d *ℤ u.a.y) e in
        int_lt-true r.y (r.d *ℤ u.b.y)
        (by_lt_z r.y (r.d *ℤ u.b.y) (λ h. h)
        (λ k. absurd
        (let less : u.b.y <ℤ u.a.y = cancel_lt r.d u.b.y u.a.y (omega (arith, ints, d)) (omega (arith, ints, low, k)) in
        omega (arith, ints, less, up))))

    lower_too : (v : Point) → is_north q v ≡ true → is_north p v ≡ true
    lower_too v e = int_lt-true p.y (p.d *ℤ v.y) (above_both v (lt_of q.y (q.d *ℤ v.y) e))

    apart_tests : (s t : Bool) → s ≡ t → s ≡ true → t ≡ false → ⊥
    apart_tests s t same e f = let c : true ≡ false = sym e ∙ same ∙ f in cc

    never : (v : Point) → is_north q v ≡ true → is_north p v ≡ false → ⊥
    never v e f = let g = lower_too v e in apart_tests (is_north p v) (is_north p v) refl g f

    never_back : (r : Rational) → is_north r u.a ≡ true → is_north r u.b ≡ false → ⊥
    never_back r e f = let g = stays r e in apart_tests (is_north r u.b) (is_north r u.b) refl g f

    abbrev Gains : Type 0
    Gains = adds (goes_up p) u.a u.b -ℤ adds (goes_up q) u.a u.b ≡ pos (bit (is_beside p q u.b)) -ℤ pos (bit (is_beside p q u.a))

    above : (r : Rational) (v : Point) → is_north r v ≡ true → IsAbove r v
    above r v e = lt_of r.y (r.d *ℤ v.y) e

    no_higher : (r : Rational) (v : Point) → is_north r v ≡ false → IsNoHigher r v
    no_higher r v e = le_of r.y (r.d *ℤ v.y) e

    by_levels : (s t s' t' : Bool) → is_north p u.a ≡ s → is_north p u.b ≡ t → is_north q u.a ≡ s' → is_north q u.b ≡ t' → Gains
    by_levels false false false false e f g h = rw (e, f, g, h) refl
    by_levels true true true true e f g h = rw (e, f, g, h) refl
    by_levels true true false false e f g h =
        let low = above p u.a e in let past = above p u.b f in let low' = no_higher q u.a g in let high = no_higher q u.b h in
        let north = some_north u.a low low' in
        let same_east : int_lt (line_to p q u.a) (pos 0) ≡ int_lt (line_to p q u.b) (pos 0) =
        same_test (line_to p q u.a) (pos 0) (line_to p q u.b) (pos 0)
        (λ k. both_east p q north u apart low past low' high k) (λ k. both_east_back p q north u apart low past low' high k) in
        rw (e, f, g, h, same_east) (omega (arith, ints))
    by_levels false true false false e f g h =
        let low = no_higher p u.a e in let past = above p u.b f in let low' = no_higher q u.a g in let high = no_higher q u.b h in
        let north = some_north u.b past high in
        let same_east : int_lt (pos 0) (turn_at u.a u.b p) ≡ int_lt (line_to p q u.b) (pos 0) =
        same_test (pos 0) (turn_at u.a u.b p) (line_to p q u.b) (pos 0)
        (λ k. last_east p q north u apart low past low' high k) (λ k. passed_by_last p q north u apart low past low' high k) in
        rw (e, f, g, h, same_east) (once (int_lt (line_to p q u.b) (pos 0)))
    by_levels true true false true e f g h =
        let low = above p u.a e in let past = above p u.b f in let low' = no_higher q u.a g in let high = above q u.b h in
        let north = some_north u.a low low' in
        let same_east : int_lt (pos 0) (turn_at u.a u.b q) ≡ int_lt (line_to p q u.a) (pos 0) =
        same_test (pos 0) (turn_at u.a u.b q) (line_to p q u.a) (pos 0)
        (λ k. first_east p q north u apart low past low' high k) (λ k. passed_by_first p q north u apart low past low' high k) in
        rw (e, f, g, h, same_east) (once_less (int_lt (line_to p q u.a) (pos 0)))
    by_levels false true false true e f g h =
        let low = no_higher p u.a e in let past = above p u.b f in let low' = no_higher q u.a g in let past' = above q u.b h in
        let d : pos 0 <ℤ p.d = p.above_zero in
        let rises : u.a.y <ℤ u.b.y = cancel_lt p.d u.a.y u.b.y (omega (arith, ints, d)) (omega (arith, ints, low, past)) in
        let high : p.y ≤ℤ (p.d *ℤ u.b.y) = omega (arith, ints, past) in let high' : q.y ≤ℤ (q.d *ℤ u.b.y) = omega (arith, ints, past') in
        let same_east : int_lt (pos 0) (turn_at u.a u.b p) ≡ int_lt (pos 0) (turn_at u.a u.b q) =
        same_test (pos 0) (turn_at u.a u.b p) (pos 0) (turn_at u.a u.b q)
        (λ k. one_side p q u apart rises low high low' high' k) (λ k. one_side q p u (apart_turned p q u apart) rises low' high' low high k) in
        rw (e, f, g, h, same_east) (omega (arith, ints))
    by_levels false false false true e f g h = absurd (never u.b h f)
    by_levels false false true t' e f g h = absurd (never u.a g e)
    by_levels false true true t' e f g h = absurd (never u.a g e)
    by_levels true false s' t' e f g h = absurd (never_back p e f)
    by_levels true true true false e f g h = absurd (never_back q g h)

    rising_gains : Gains
    rising_gains = by_levels (is_north p u.a) (is_north p u.b) (is_north q u.a) (is_north q u.b) refl refl refl refl

  -- ---- upward or downward

  turned_segment : Segment → Segment
  turned_segment u = record { a = u.b; b = u.a; different = λ e. u.different (sym e) }

  turned_between : (x y v : ℤ) → IsBetween x y v → IsBetween y x v
  turned_between x y v = ⊎_elim (λ k. inr k) (λ k. inl k)

  on_turned : (u : Segment) (r : Rational) → IsOn (turned_segment u) r → IsOn u r
  unfolding turned_segment
  on_turned u r on =
      let none = on.straight in
      record {
        straight = let back = turned u.b u.a r in omega (arith, ints, back, none);
        x_between = turned_between (r.d *ℤ u.b.x) (r.d *ℤ u.a.x) r.x on.x_between;
        y_between = turned_between (r.d *ℤ u.b.y) (r.d *ℤ u.a.y) r.y on.y_between;
      }

  apart_back : (u : Segment) → IsApart p q u → IsApart p q (turned_segment u)
  apart_back u apart = record {
    first = λ on. apart.first (on_turned u p on);
    last = λ on. apart.last (on_turned u q on);
    between = λ r b on. apart.between r b (on_turned u r on);
  }

  pub gains : (u : Segment) → IsApart p q u →
      adds (goes_up p) u.a u.b -ℤ adds (goes_up q) u.a u.b ≡ pos (bit (is_beside p q u.b)) -ℤ pos (bit (is_beside p q u.a))
  unfolding turned_segment
  gains u apart =
      by_lt_z u.b.y u.a.y
      (λ down.
      let back : adds (goes_up p) u.b u.a -ℤ adds (goes_up q) u.b u.a ≡ pos (bit (is_beside p q u.a)) -ℤ pos (bit (is_beside p q u.b)) =
      rising_gains (turned_segment u) (apart_back u apart) (omega (arith, ints, down)) in
      let e = adds_turned p u.a u.b in let f = adds_turned q u.a u.b in
      omega (arith, ints, back, e, f))
      (λ up. rising_gains u apart up)
