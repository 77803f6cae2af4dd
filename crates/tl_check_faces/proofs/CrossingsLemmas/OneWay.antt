-- Two segments that leave one point in one direction share two places beside that point.
use Rattle.std.proofs.Common.{◌≡◌, ◌≢◌, ⊎_elim, inl, inr, ℤ, pos, ◌+ℤ◌, ◌-ℤ◌, ◌*ℤ◌, ◌<ℤ◌, ◌≤ℤ◌, ap, sym, refl, arith}
use Rattle.std.proofs.lemmas.Int.{ints}
use Rattle.tl_geom.specs.declared.rational.Rational.{Rational}
use Rattle.tl_geom.specs.declared.segment.Segment.{Segment}
use Rattle.tl_geom.specs.Plane.{IsOn, IsSame, cross, whole}
use Rattle.tl_geom.proofs.Places.{place, place_on, on_same, some_step}
use Rattle.tl_geom.proofs.Polynomials.{num, ◌⊕◌, ◌⊖◌, ◌⊗◌, same_by}
use Rattle.tl_geom.proofs.Signs.{square, square_above, zero_product}

-- the segment from the last end to the first
pub flip : Segment → Segment
flip s = record { a = s.b; b = s.a; different = λ e. s.different (sym e) }

pub flip_a : (s : Segment) → (flip s).a ≡ s.b
unfolding flip
flip_a s = refl

pub flip_b : (s : Segment) → (flip s).b ≡ s.a
unfolding flip
flip_b s = refl

flip_straight : (ax ay bx by x y d : ℤ) → cross (bx -ℤ ax) (by -ℤ ay) (x -ℤ d *ℤ ax) (y -ℤ d *ℤ ay) ≡ pos 0 → cross (ax -ℤ bx) (ay -ℤ by) (x -ℤ d *ℤ bx) (y -ℤ d *ℤ by) ≡ pos 0
flip_straight ax ay bx by x y d e =
    same_by
    ((num ax ⊖ num bx) ⊗ (num y ⊖ num d ⊗ num by) ⊖ (num ay ⊖ num by) ⊗ (num x ⊖ num d ⊗ num bx)) (num (pos 0)) (num (pos 0) ⊖ num (pos 1))
    ((num bx ⊖ num ax) ⊗ (num y ⊖ num d ⊗ num ay) ⊖ (num by ⊖ num ay) ⊗ (num x ⊖ num d ⊗ num ax)) (num (pos 0)) e (omega arith)

pub on_flip : (s : Segment) (r : Rational) → IsOn s r → IsOn (flip s) r
unfolding flip
on_flip s r on = record {
  straight = flip_straight s.a.x s.a.y s.b.x s.b.y r.x r.y r.d on.straight;
  x_between = ⊎_elim (λ h. inr h) (λ h. inl h) on.x_between;
  y_between = ⊎_elim (λ h. inr h) (λ h. inl h) on.y_between;
}

-- ---- parts of a segment

no_step : (s : Segment) → s.b.x -ℤ s.a.x ≡ pos 0 → s.b.y -ℤ s.a.y ≡ pos 0 → ⊥
no_step s x y = ⊎_elim (λ ne. ne x) (λ level. level.1 y) (some_step s)

above_not_zero : (n : ℤ) → pos 0 <ℤ n → n ≢ pos 0
above_not_zero n h e = omega (arith, ints, h, e)

no_part : (a u n d : ℤ) → pos 0 <ℤ n → (d *ℤ a +ℤ n *ℤ u) *ℤ pos 1 ≡ a *ℤ d → u ≡ pos 0
no_part a u n d h e =
    zero_product n u (above_not_zero n h)
    (same_by (num n ⊗ num u) (num (pos 0)) (num (pos 1)) ((num d ⊗ num a ⊕ num n ⊗ num u) ⊗ num (pos 1)) (num a ⊗ num d) e (omega arith))

-- some parts along a segment isn't its first end
pub place_not_start : (s : Segment) (n d : ℤ) (h : pos 0 <ℤ d) → pos 0 <ℤ n → ¬ IsSame (place s n d h) (whole s.a)
place_not_start s n d h some e =
    no_step s (no_part s.a.x (s.b.x -ℤ s.a.x) n d some e.x) (no_part s.a.y (s.b.y -ℤ s.a.y) n d some e.y)

one_part : (a u n d l : ℤ) → pos 0 <ℤ n → d <ℤ l → (d *ℤ a +ℤ n *ℤ u) *ℤ l ≡ (l *ℤ a +ℤ n *ℤ u) *ℤ d → u ≡ pos 0
one_part a u n d l h less e =
    zero_product n u (above_not_zero n h)
    (zero_product (l -ℤ d) (n *ℤ u) (above_not_zero (l -ℤ d) (omega (arith, ints, less)))
    (same_by ((num l ⊖ num d) ⊗ (num n ⊗ num u)) (num (pos 0)) (num (pos 1)) ((num d ⊗ num a ⊕ num n ⊗ num u) ⊗ num l) ((num l ⊗ num a ⊕ num n ⊗ num u) ⊗ num d) e (omega arith)))

-- nor the same of more, smaller parts
pub places_differ : (s : Segment) (n d l : ℤ) (h : pos 0 <ℤ d) (k : pos 0 <ℤ l) → pos 0 <ℤ n → d <ℤ l → ¬ IsSame (place s n d h) (place s n l k)
places_differ s n d l h k some less e =
    no_step s (one_part s.a.x (s.b.x -ℤ s.a.x) n d l some less e.x) (one_part s.a.y (s.b.y -ℤ s.a.y) n d l some less e.y)

-- ---- two segments

-- two different places on both segments, neither of which is the first end
pub record ShareTwo (s t : Segment) : Type 0 where
  pub one : Rational
  pub other : Rational
  pub one_first : IsOn s one
  pub one_second : IsOn t one
  pub other_first : IsOn s other
  pub other_second : IsOn t other
  pub differ : ¬ IsSame one other
  pub one_inside : ¬ IsSame one (whole s.a)
  pub other_inside : ¬ IsSame other (whole s.a)

pub scaled_x : (ux uy vx vy : ℤ) → cross ux uy vx vy ≡ pos 0 → (ux *ℤ vx +ℤ uy *ℤ vy) *ℤ ux ≡ (ux *ℤ ux +ℤ uy *ℤ uy) *ℤ vx
scaled_x ux uy vx vy e =
    same_by ((num ux ⊗ num vx ⊕ num uy ⊗ num vy) ⊗ num ux) ((num ux ⊗ num ux ⊕ num uy ⊗ num uy) ⊗ num vx) (num uy) (num ux ⊗ num vy ⊖ num uy ⊗ num vx) (num (pos 0)) e (omega arith)

pub scaled_y : (ux uy vx vy : ℤ) → cross ux uy vx vy ≡ pos 0 → (ux *ℤ vx +ℤ uy *ℤ vy) *ℤ uy ≡ (ux *ℤ ux +ℤ uy *ℤ uy) *ℤ vy
scaled_y ux uy vx vy e =
    same_by ((num ux ⊗ num vx ⊕ num uy ⊗ num vy) ⊗ num uy) ((num ux ⊗ num ux ⊕ num uy ⊗ num uy) ⊗ num vy) (num (pos 0) ⊖ num ux) (num ux ⊗ num vy ⊖ num uy ⊗ num vx) (num (pos 0)) e (omega arith)

module _ (s t : Segment) (x : s.a.x ≡ t.a.x) (y : s.a.y ≡ t.a.y) (parallel : cross (s.b.x -ℤ s.a.x) (s.b.y -ℤ s.a.y) (t.b.x -ℤ t.a.x) (t.b.y -ℤ t.a.y) ≡ pos 0) (same_way : pos 0 <ℤ ((s.b.x -ℤ s.a.x) *ℤ (t.b.x -ℤ t.a.x) +ℤ (s.b.y -ℤ s.a.y) *ℤ (t.b.y -ℤ t.a.y))) where
  abbrev own : ℤ
  own = (s.b.x -ℤ s.a.x) *ℤ (s.b.x -ℤ s.a.x) +ℤ (s.b.y -ℤ s.a.y) *ℤ (s.b.y -ℤ s.a.y)

  abbrev both : ℤ
  both = (s.b.x -ℤ s.a.x) *ℤ (t.b.x -ℤ t.a.x) +ℤ (s.b.y -ℤ s.a.y) *ℤ (t.b.y -ℤ t.a.y)

  own_above : pos 0 <ℤ own
  own_above =
      let p : pos 0 ≤ℤ ((s.b.x -ℤ s.a.x) *ℤ (s.b.x -ℤ s.a.x)) = square (s.b.x -ℤ s.a.x) in
      let q : pos 0 ≤ℤ ((s.b.y -ℤ s.a.y) *ℤ (s.b.y -ℤ s.a.y)) = square (s.b.y -ℤ s.a.y) in
      ⊎_elim
      (λ ne. let h : pos 0 <ℤ ((s.b.x -ℤ s.a.x) *ℤ (s.b.x -ℤ s.a.x)) = square_above (s.b.x -ℤ s.a.x) ne in omega (arith, ints, h, q))
      (λ level. let h : pos 0 <ℤ ((s.b.y -ℤ s.a.y) *ℤ (s.b.y -ℤ s.a.y)) = square_above (s.b.y -ℤ s.a.y) level.1 in omega (arith, ints, h, p))
      (some_step s)

  -- the place that is so many parts along the one is so many along the other
  on_both : (d : ℤ) (h : pos 0 <ℤ d) → (own +ℤ both) ≤ℤ d → IsOn s (place s both d h) × IsOn t (place s both d h)
  on_both d h le = (
    place_on s both d h (omega (arith, ints, same_way)) (omega (arith, ints, own_above, le)),
    on_same t (place t own d h) (place s both d h)
        (record {
          x = ap (λ z. z *ℤ d) (λ i. d *ℤ sym x i +ℤ sym (scaled_x (s.b.x -ℤ s.a.x) (s.b.y -ℤ s.a.y) (t.b.x -ℤ t.a.x) (t.b.y -ℤ t.a.y) parallel) i);
          y = ap (λ z. z *ℤ d) (λ i. d *ℤ sym y i +ℤ sym (scaled_y (s.b.x -ℤ s.a.x) (s.b.y -ℤ s.a.y) (t.b.x -ℤ t.a.x) (t.b.y -ℤ t.a.y) parallel) i);
        })
        (place_on t own d h (omega (arith, ints, own_above)) (omega (arith, ints, same_way, le))),
  )

  pub share_two : ShareTwo s t
  share_two = from (own +ℤ both) (omega (arith, ints, own_above, same_way)) (omega (arith, ints))
    where
      from : (d : ℤ) → pos 0 <ℤ d → (own +ℤ both) ≤ℤ d → ShareTwo s t
      from d h le =
          let more : d <ℤ (d +ℤ d) = omega (arith, ints, h) in
          let k : pos 0 <ℤ (d +ℤ d) = omega (arith, ints, h) in
          let first = on_both d h le in
          let second = on_both (d +ℤ d) k (omega (arith, ints, h, le)) in
          record {
            one = place s both d h;
            other = place s both (d +ℤ d) k;
            one_first = first.0;
            one_second = first.1;
            other_first = second.0;
            other_second = second.1;
            differ = places_differ s both d (d +ℤ d) h k same_way more;
            one_inside = place_not_start s both d h same_way;
            other_inside = place_not_start s both (d +ℤ d) k same_way;
          }
